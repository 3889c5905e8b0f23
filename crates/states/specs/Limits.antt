-- The size of a state, and the largest count of periods. Document 01, "Image and row machine" and "Replies that refuse".
use Rattle.std.specs.Prelude.{ℕ}

-- the bytes of a state before its row values
abbrev pub head_bytes : ℕ
head_bytes = 10

-- the most periods that a state counts
abbrev pub max_periods : ℕ
max_periods = 4294967295
