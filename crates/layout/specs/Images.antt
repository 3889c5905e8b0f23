-- Images and their bytes. Document 01, "Image and row machine": "rows of 8 bytes, numbered from 0, then an end record".
use Rattle.std.specs.Prelude.{ℕ, zero, suc, ◌+◌, ◌*◌, ◌-◌, ◌/◌, ◌%◌, Bool, ◌&&◌, List, [], ◌∷◌, ◌++◌, eqb, ltb, leb, length}
use Rattle.std.proofs.Math.Option.{get_or}
use Rattle.records.specs.Fields.{bytes, field}
use Rattle.records.specs.Marks.{end_mark, marked}
use Rattle.layout.specs.Limits.{row_bytes, max_rows}
use Rattle.layout.specs.Rows.{Row, never, encode, decode, good_row}

-- the rows, and the numbers of the rows S, V1 and V2 that decide
pub record Image : Type 0 where
  pub rows : List Row
  pub S : ℕ
  pub V1 : ℕ
  pub V2 : ℕ

-- ---- an image's bytes

unfoldable pub rows_bytes : List Row → List ℕ
rows_bytes [] = []
rows_bytes (r ∷ rs) = encode r ++ rows_bytes rs

-- "End: `54 45`, then S, V1, V2, two-byte numbers of rows of the image."
abbrev pub end_record : (S V1 V2 : ℕ) → List ℕ
end_record s v w = end_mark ++ (bytes 2 s ++ (bytes 2 v ++ bytes 2 w))

unfoldable pub end_bytes : Image → List ℕ
end_bytes m = end_record m.S m.V1 m.V2

unfoldable pub image_bytes : Image → List ℕ
image_bytes m = rows_bytes m.rows ++ end_bytes m

-- ---- the image that bytes hold

-- how many rows stand before the end record
unfoldable pub row_count : List ℕ → ℕ
row_count l = length l / row_bytes - 1

-- the first n rows; `never` stands where the bytes hold no row, which a good image has nowhere
unfoldable pub rows_of : List ℕ → ℕ → List Row
rows_of l zero = []
rows_of l (suc n) = rows_of l n ++ (get_or (decode l (row_bytes * n)) never ∷ [])

unfoldable pub image_of : List ℕ → Image
image_of l =
    let at = row_bytes * row_count l in
    record { rows = rows_of l (row_count l); S = field l (at + 2) 2; V1 = field l (at + 4) 2; V2 = field l (at + 6) 2 }

-- ---- what makes the bytes an image

-- a multiple of 8 bytes, room for a row and the end record, and for no more than max_rows
unfoldable pub good_image_length : List ℕ → Bool
good_image_length l = eqb (length l % row_bytes) 0 && leb (row_bytes * 2) (length l) && leb (length l) (row_bytes * (max_rows + 1))

-- row k is a good row of an image of n rows
unfoldable pub good_row_at : List ℕ → ℕ → ℕ → Bool
good_row_at l n k = good_row k n (decode l (row_bytes * k))

-- the end record after n rows names three of them
unfoldable pub good_end : List ℕ → ℕ → Bool
good_end l n =
    let at = row_bytes * n in
    marked l at end_mark && ltb (field l (at + 2) 2) n && ltb (field l (at + 4) 2) n && ltb (field l (at + 6) 2) n
