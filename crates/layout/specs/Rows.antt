-- The rows of an image and their bytes. Document 01, "Image and row machine", from "Row:" to "Unused fields are 0."
use Rattle.std.specs.Prelude.{ℕ, ◌+◌, ◌^◌, ◌<◌, Bool, true, false, ◌&&◌, cond, List, ◌∷◌, ◌++◌, eqb, ltb, get_or}
use Rattle.std.proofs.Math.Option.{Option, none, some}
use Rattle.records.specs.Fields.{bytes, field}
use Rattle.records.specs.Marks.{row_mark, marked}
use Rattle.periods.specs.Limits.{actions}
use Rattle.periods.specs.declared.Party.{Party}
use Rattle.periods.specs.Periods.{party_number, party_of}

-- kinds 0 to 6: false; true in period 1 only; a party tries an action; not x; x and y; x or y; the value that row x had in the
-- period before
pub data Row : Type 0 where
  never : Row
  initial : Row
  attempt : Party → ℕ → Row
  negation : ℕ → Row
  conjunction : ℕ → ℕ → Row
  disjunction : ℕ → ℕ → Row
  previous : ℕ → Row

-- ---- a row's bytes: "`54 52`, kind, a zero byte, two-byte fields x and y"

abbrev pub kind : Row → ℕ
kind never = 0
kind initial = 1
kind (attempt p a) = 2
kind (negation x) = 3
kind (conjunction x y) = 4
kind (disjunction x y) = 5
kind (previous x) = 6

abbrev pub field_x : Row → ℕ
field_x never = 0
field_x initial = 0
field_x (attempt p a) = party_number p
field_x (negation x) = x
field_x (conjunction x y) = x
field_x (disjunction x y) = x
field_x (previous x) = x

abbrev pub field_y : Row → ℕ
field_y never = 0
field_y initial = 0
field_y (attempt p a) = a
field_y (negation x) = 0
field_y (conjunction x y) = y
field_y (disjunction x y) = y
field_y (previous x) = 0

abbrev pub row_record : (kind x y : ℕ) → List ℕ
row_record k x y = row_mark ++ (k ∷ 0 ∷ (bytes 2 x ++ bytes 2 y))

unfoldable pub encode : Row → List ℕ
encode r = row_record (kind r) (field_x r) (field_y r)

-- the fields fit a row's bytes: an action is one of those that there are, a row's number fits two bytes
abbrev pub Fits : Row → Type 0
Fits never = Unit {0}
Fits initial = Unit {0}
Fits (attempt p a) = a < actions
Fits (negation x) = x < 256 ^ 2
Fits (conjunction x y) = (x < 256 ^ 2) × (y < 256 ^ 2)
Fits (disjunction x y) = (x < 256 ^ 2) × (y < 256 ^ 2)
Fits (previous x) = x < 256 ^ 2

-- ---- the row that eight bytes hold, if they hold one

abbrev pub attempt_of : Option Party → ℕ → Option Row
attempt_of none a = none
attempt_of (some p) a = cond (ltb a actions) (some (attempt p a)) none

-- by the kind and the fields x and y
unfoldable pub row_of : ℕ → ℕ → ℕ → Option Row
row_of k x y =
    cond (eqb k 0) (cond (eqb x 0 && eqb y 0) (some never) none)
    (cond (eqb k 1) (cond (eqb x 0 && eqb y 0) (some initial) none)
    (cond (eqb k 2) (attempt_of (party_of x) y)
    (cond (eqb k 3) (cond (eqb y 0) (some (negation x)) none)
    (cond (eqb k 4) (some (conjunction x y))
    (cond (eqb k 5) (some (disjunction x y))
    (cond (eqb k 6) (cond (eqb y 0) (some (previous x)) none)
    none))))))

-- by the bytes from byte `at` on, whatever the mark and the zero byte are
abbrev pub row_in : List ℕ → ℕ → Option Row
row_in l at = row_of (get_or l (at + 2) 0) (field l (at + 4) 2) (field l (at + 6) 2)

-- the row in the eight bytes from byte `at` on
unfoldable pub decode : List ℕ → ℕ → Option Row
decode l at = cond (marked l at row_mark && eqb (get_or l (at + 3) 0) 0) (row_in l at) none

-- "In 3 to 5 the fields name lower rows; in 6 any row of the image": of row k of an image of n rows
abbrev pub names_rows : ℕ → ℕ → Row → Bool
names_rows k n never = true
names_rows k n initial = true
names_rows k n (attempt p a) = true
names_rows k n (negation x) = ltb x k
names_rows k n (conjunction x y) = ltb x k && ltb y k
names_rows k n (disjunction x y) = ltb x k && ltb y k
names_rows k n (previous x) = ltb x n

-- a good row k of an image of n rows
abbrev pub good_row : ℕ → ℕ → Option Row → Bool
good_row k n none = false
good_row k n (some r) = names_rows k n r
