-- Records made of periods, one after the other. Document 01, "Records"; document 02, "Thirty-two actions".
use Rattle.std.specs.Prelude.{ℕ, List, [], ◌∷◌, ◌++◌}
use Rattle.records.specs.Fields.{bytes}
use Rattle.periods.specs.declared.Form.{Form}
use Rattle.periods.specs.Forms.{form_mark, mask_bytes}
use Rattle.periods.specs.Periods.{Period}

-- the record that is made of a period, which holds it where the form's masks have room; those of a list of periods, one after the other
unfoldable pub record_of : Form → Period → List ℕ
record_of f x = form_mark f ++ bytes (mask_bytes f) x.attempts1 ++ bytes (mask_bytes f) x.attempts2

unfoldable pub records_of : Form → List Period → List ℕ
records_of f [] = []
records_of f (x ∷ w) = record_of f x ++ records_of f w
