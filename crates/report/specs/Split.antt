-- Where the contract ends and the trace begins. Document 02, "Thirty-two actions": "`watch` begins its trace at the first whole six bytes, counted in
-- sixes, that start with either mark"; document 01, "Watch": "the contract is what precedes", and "Without such a record all is contract."
use Rattle.std.specs.Prelude.{ℕ, ◌*◌, Bool, not, cond, List, eqb, length, take, drop}
use Rattle.records.specs.Refusals.{first_failing}
use Rattle.periods.specs.declared.Form.TheVariants.{Narrow}
use Rattle.periods.specs.Forms.{period_bytes, either_mark}
use Rattle.periods.specs.Traces.{whole_periods}

-- six bytes, as many as a narrow record has, counted in sixes from 0: number k doesn't start with either mark
unfoldable pub unmarked_six : List ℕ → (k : ℕ) → Bool
unmarked_six input k = not (either_mark input (period_bytes Narrow * k))

-- the number of the first whole six bytes that do, or how many whole six bytes there are where none do
unfoldable pub first_period : List ℕ → ℕ
first_period input = first_failing (unmarked_six input) 0 (whole_periods Narrow input)

unfoldable pub contract_length : List ℕ → ℕ
contract_length input = cond (eqb (first_period input) (whole_periods Narrow input)) (length input) (period_bytes Narrow * first_period input)

abbrev pub contract_of : List ℕ → List ℕ
contract_of input = take (contract_length input) input

abbrev pub trace_of : List ℕ → List ℕ
trace_of input = drop (contract_length input) input
