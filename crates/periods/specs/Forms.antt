-- The forms of a period record: the narrow one, "`54 50`, two bytes of party 1's attempts, two of party 2's" (document 01, "Records"), and the wide
-- one, "10 bytes, mark `54 51`, with four bytes of attempts for each party" (document 02, "Thirty-two actions", where a form is a record's sort too).
use Rattle.std.specs.Prelude.{ℕ, ◌+◌, Bool, ◌||◌, List}
use Rattle.records.specs.Marks.{narrow_mark, wide_mark, marked}
use Rattle.periods.specs.declared.Form.{Form}
use Rattle.periods.specs.declared.Form.TheVariants.{Narrow, Wide}

-- a form's mark
abbrev pub form_mark : Form → List ℕ
form_mark Narrow = narrow_mark
form_mark Wide = wide_mark

-- the bytes of one party's attempts
abbrev pub mask_bytes : Form → ℕ
mask_bytes Narrow = 2
mask_bytes Wide = 4

-- the bytes of a record: the mark, and both parties' attempts
abbrev pub period_bytes : Form → ℕ
period_bytes f = 2 + mask_bytes f + mask_bytes f

-- the bytes from byte `at` on start with either form's mark
unfoldable pub either_mark : List ℕ → (at : ℕ) → Bool
either_mark l at = marked l at (form_mark Narrow) || marked l at (form_mark Wide)
