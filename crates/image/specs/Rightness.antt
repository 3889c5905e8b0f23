-- When an image is right for a clause, and how many rows ours has.
use Rattle.std.specs.Prelude.{ℕ, ◌+◌, ◌≤◌, List, ◌≡◌}
use Rattle.periods.specs.Periods.{Period}
use Rattle.layout.specs.Images.{row_count, image_of}
use Rattle.layout.specs.Refusals.{image_test}
use Rattle.states.specs.States.{State, state_of, fresh_bytes}
use Rattle.machine.specs.Machine.{after_periods}
use Rattle.contract.specs.Meaning.{Clause, Decision, meaning}
use Rattle.contract.specs.Verdicts.{outcome, decision_period, blame}
use Rattle.grammar.specs.Reader.{contract_records, contract_windows}
use Rattle.image.specs.Limits.{allowed_for}
use Rattle.image.specs.Widths.{clause_size, fixed_rows, max_rows_for}
use Rattle.records.specs.Refusals.{Passed}

-- a state shows a decision: "outcome (0 undecided, 1 satisfied, 2 violated); blame; .. decision period (.. 0 for none)"
pub record Shows (d : Decision) (s : State) : Type 0 where
  pub outcome_is : s.outcome ≡ outcome d
  pub blame_is : s.blame ≡ blame d
  pub decision_is : s.decision ≡ decision_period d

-- The image is right for the clause, whatever rows it has: refusal 9 does not apply, and the row machine on it, begun with a state of zeros, shows
-- after every list of periods what the clause means on it.
pub record RightFor (clause : Clause) (image : List ℕ) : Type 0 where
  pub good : image_test image ≡ Passed
  pub shows : (w : List Period)
      → Shows (meaning clause w) (after_periods (image_of image) (state_of (fresh_bytes (row_count image))) w)

-- how many rows it has, for a contract that means this clause: as many as the sizes of the contract's records and the fixed rows add up to, no
-- more than the widest records would have with windows as long, and so within what refusal 8 makes room for
pub record SizedFor (contract : List ℕ) (clause : Clause) (image : List ℕ) : Type 0 where
  pub rows_are : row_count image ≡ clause_size clause + fixed_rows
  pub rows_max : row_count image ≤ max_rows_for (contract_records contract) (contract_windows contract)
  pub rows_allowed : row_count image ≤ allowed_for contract
