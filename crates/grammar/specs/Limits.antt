-- How many records a contract may have, how long one is, and how many periods a window. Document 01, "Records"; document 02, "Duties with a deadline".
use Rattle.std.specs.Prelude.{ℕ}

-- a contract is 1 to 64 records
abbrev pub max_records : ℕ
max_records = 64

-- a window is 1 to 15 periods
abbrev pub max_window : ℕ
max_window = 15

-- the bytes of a contract record
abbrev pub record_bytes : ℕ
record_bytes = 6
