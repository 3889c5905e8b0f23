-- What the code's inner functions need and give, beside document 01's own notions. A period is computed in the state's own bytes: a row's value is in the
-- first bit of its byte, and while the rows are computed in order, the byte of a row that has its new value holds new + 2 × old. The second bit is
-- left there for the next period, and cleared at the end.
use Rattle.std.specs.Prelude.{ℕ, ◌+◌, ◌*◌, ◌/◌, ◌%◌, ◌<◌, Bool, true, false, ◌||◌, cond, List, [], ◌∷◌, ◌++◌, map, ◌≡◌, length, get_or, set, take, drop}
use Rattle.std.proofs.lemmas.List.Edits.{sets}
use Rattle.records.specs.Fields.{bytes}
use Rattle.records.specs.Refusals.{Passed}
use Rattle.periods.specs.Periods.{Period}
use Rattle.layout.specs.declared.RowFields.{RowFields}
use Rattle.layout.specs.Rows.{good_row}
use Rattle.layout.specs.Fields.{row_from}
use Rattle.layout.specs.Images.{Image, row_count, image_of}
use Rattle.layout.specs.Refusals.{image_test}
use Rattle.states.specs.Limits.{head_bytes}
use Rattle.states.specs.States.{all_at_most}
use Rattle.machine.specs.declared.Decisive.{Decisive}
use Rattle.machine.specs.Machine.{byte_of, is_true, new_values, outcome_of, blame_of}

-- the first bits of the rows' bytes, as bytes and as values
unfoldable pub first_bits : List ℕ → List ℕ
first_bits l = map (λ (v : ℕ). v % 2) l

unfoldable pub values_in : List ℕ → List Bool
values_in l = map is_true (first_bits l)

-- a state's bytes with the first bits of its rows' bytes alone
unfoldable pub trimmed : List ℕ → List ℕ
trimmed l = take head_bytes l ++ first_bits (drop head_bytes l)

-- the bytes of the rows that have new values
unfoldable pub packed : (old new : List Bool) → List ℕ
packed [] new = []
packed (o ∷ old) [] = []
packed (o ∷ old) (v ∷ new) = (byte_of v + 2 * byte_of o) ∷ packed old new

-- the values of the period before, where the first k rows have new ones
unfoldable pub old_in : (k : ℕ) → List ℕ → List Bool
old_in k l = map (λ (v : ℕ). is_true (v / 2 % 2)) (take k l) ++ values_in (drop k l)

-- every row's new value, from the bytes of the row values before
unfoldable pub new_bits : (image : List ℕ) → Period → Bool → (values : List ℕ) → List Bool
new_bits image p first values = new_values first p (map is_true values) (image_of image).rows (row_count image)

-- in period 1 every old value is false, where the first k rows have new ones
abbrev pub Fresh : (k : ℕ) (values : List ℕ) (first : Bool) → Type 0
Fresh k values first = first ≡ true → (x : ℕ) → get_or (old_in k values) x false ≡ false

-- the fields make a row that names rows of these bytes
pub record GoodFields (k : ℕ) (values : List ℕ) (row : RowFields) (first : Bool) : Type 0 where
  pub good : good_row (length values) (length values) (row_from row) ≡ true
  pub fresh : Fresh k values first

-- a byte of two values for each row of a good image, of which k is one
pub record NextRow (image values : List ℕ) (k : ℕ) (first : Bool) : Type 0 where
  pub good : image_test image ≡ Passed
  pub row : k < row_count image
  pub long : length values ≡ row_count image
  pub fresh : Fresh k values first

-- a byte of two values for each row of a good image; in period 1 every value is false
pub record RowValues (image values : List ℕ) (first : Bool) : Type 0 where
  pub good : image_test image ≡ Passed
  pub long : length values ≡ row_count image
  pub fresh : all_at_most (cond first 0 1) (first_bits values) ≡ true

-- the state has a byte for each row of a good image
pub record HasRows (image state : List ℕ) : Type 0 where
  pub good : image_test image ≡ Passed
  pub long : length state ≡ head_bytes + row_count image

-- the values of S, V1 and V2 in a state's bytes
unfoldable pub decisive_in : Image → List ℕ → Decisive
decisive_in m l =
    let values = values_in (drop head_bytes l) in
    record { sat = get_or values m.S false; one = get_or values m.V1 false; two = get_or values m.V2 false }

-- a state's bytes with what such values decide in a period
unfoldable pub with_decision : Decisive → ℕ → List ℕ → List ℕ
with_decision by period l =
    sets (set (set l 0 (outcome_of by.sat by.one by.two)) 1 (blame_of by.one by.two)) 6 (bytes 4 (cond (by.sat || by.one || by.two) period 0))
