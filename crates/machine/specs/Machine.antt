-- The row machine. Document 01, "Image and row machine": the row kinds, and "Each period that finds outcome 0 computes the rows in
-- order".
use Rattle.std.specs.Prelude.{ℕ, zero, suc, ◌+◌, Bool, true, false, not, ◌&&◌, ◌||◌, cond, List, [], ◌∷◌, ◌++◌, map, eqb, length, get_or}
use Rattle.periods.specs.Periods.{Period, tries}
use Rattle.layout.specs.Rows.{Row, never, initial, attempt, negation, conjunction, disjunction, previous}
use Rattle.layout.specs.Images.{Image}
use Rattle.states.specs.States.{State}

-- a row's value as a state's byte, and back
abbrev pub byte_of : Bool → ℕ
byte_of false = 0
byte_of true = 1

abbrev pub is_true : ℕ → Bool
is_true v = eqb v 1

-- A row's value, from whether this is period 1, the period's attempts, the rows' values of the period before and the lower rows'
-- values of this one.
abbrev pub value : Bool → Period → List Bool → List Bool → Row → Bool
value first p old new never = false
value first p old new initial = first
value first p old new (attempt q a) = tries p q a
value first p old new (negation x) = not (get_or new x false)
value first p old new (conjunction x y) = get_or new x false && get_or new y false
value first p old new (disjunction x y) = get_or new x false || get_or new y false
value first p old new (previous x) = not first && get_or old x false

-- the values of the first n rows, computed in order
unfoldable pub new_values : Bool → Period → List Bool → List Row → ℕ → List Bool
new_values first p old rows zero = []
new_values first p old rows (suc n) =
    new_values first p old rows n ++ (value first p old (new_values first p old rows n) (get_or rows n never) ∷ [])

-- every row's value in the period after a state
unfoldable pub values_after : Image → Period → State → List Bool
values_after m p s = new_values (eqb s.periods 0) p (map is_true s.values) m.rows (length m.rows)

-- "decides if S, V1 or V2 is then true: violated if V1 or V2 is, blame 1, 2 or 3 accordingly; otherwise satisfied"
abbrev pub outcome_of : Bool → Bool → Bool → ℕ
outcome_of s v1 v2 = cond (v1 || v2) 2 (cond s 1 0)

abbrev pub blame_of : Bool → Bool → ℕ
blame_of false false = 0
blame_of true false = 1
blame_of false true = 2
blame_of true true = 3

-- a period that finds outcome 0 and gives the rows these values
unfoldable pub computed : Image → List Bool → State → State
computed m new s =
    let sat = get_or new m.S false in
    let v1 = get_or new m.V1 false in
    let v2 = get_or new m.V2 false in
    record {
      outcome = outcome_of sat v1 v2;
      blame = blame_of v1 v2;
      periods = s.periods + 1;
      decision = cond (sat || v1 || v2) (s.periods + 1) 0;
      values = map byte_of new;
    }

-- "After the decision a step raises only periods taken."
unfoldable pub counted : State → State
counted s = record { outcome = s.outcome; blame = s.blame; periods = s.periods + 1; decision = s.decision; values = s.values }

-- a state without a decision
abbrev pub undecided : State → Bool
undecided s = eqb s.outcome 0

-- the state after one period
unfoldable pub after_period : Image → Period → State → State
after_period m p s = cond (undecided s) (computed m (values_after m p s) s) (counted s)

-- the state after a list of periods
unfoldable pub after_periods : Image → State → List Period → State
after_periods m s [] = s
after_periods m s (p ∷ w) = after_periods m (after_period m p s) w
