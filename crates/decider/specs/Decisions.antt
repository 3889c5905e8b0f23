-- What decide's program computes with: its answer in numbers.
use Rattle.std.specs.Prelude.{ℕ, List, Result}
use Rattle.records.specs.declared.Refusal.{Refusal}
use Rattle.records.specs.Refusals.{given}
use Rattle.states.specs.States.{State}
use Rattle.calls.specs.Reading.{state_after_records, records_read}
use Rattle.calls.specs.Refusals.{decide_test}
use Rattle.decider.specs.declared.Decision.{Decision}

-- the answer of the state that so many records leave
abbrev pub decision_after : State → (records : ℕ) → Decision
decision_after s n = record { outcome = s.outcome; blame = s.blame; period = s.decision; read = n }

-- decide's answer, or its refusal
unfoldable pub decision_of : (image trace : List ℕ) → Result Decision Refusal
decision_of image trace =
    let n = records_read image trace in
    given (decide_test image trace) (decision_after (state_after_records image trace n) n)
