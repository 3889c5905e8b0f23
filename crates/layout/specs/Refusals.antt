-- Refusal 9 and its place. Document 01, "Replies that refuse".
use Rattle.std.specs.Prelude.{ℕ, List, eqb}
use Rattle.records.specs.declared.Fault.TheVariants.{BadImage}
use Rattle.records.specs.Refusals.{Test, require, first_of, first_failing}
use Rattle.layout.specs.Images.{row_count, good_image_length, good_row_at, good_end}

-- 9: the length, at 0; then the first bad row; then the end record, at the row count
unfoldable pub image_test : List ℕ → Test
image_test image =
    let n = row_count image in
    let bad = first_failing (good_row_at image n) 0 n in
    first_of (require (good_image_length image) BadImage 0)
    (first_of (require (eqb bad n) BadImage bad)
    (require (good_end image n) BadImage n))
