-- The sizes of rows and images. Document 01, "Image and row machine" and "Replies that refuse"; document 02, "Duties with a deadline".
use Rattle.std.specs.Prelude.{ℕ}

-- the bytes of a row, and of an end record
abbrev pub row_bytes : ℕ
row_bytes = 8

-- "an image may have 5,952 rows"
abbrev pub max_rows : ℕ
max_rows = 5952
