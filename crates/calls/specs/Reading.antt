-- How far decide reads a trace: from its first record, on a fresh state, to the decision. Document 02, "Stop reading once it is decided".
use Rattle.std.specs.Prelude.{ℕ, List}
use Rattle.records.specs.Refusals.{first_failing}
use Rattle.periods.specs.Traces.{period_records, trace_periods}
use Rattle.layout.specs.Images.{row_count, image_of}
use Rattle.states.specs.States.{State, state_of, fresh_bytes}
use Rattle.machine.specs.Machine.{undecided, after_periods}

-- the state after the periods of a trace's first k records
unfoldable pub state_after_records : (image trace : List ℕ) → (k : ℕ) → State
state_after_records image trace k = after_periods (image_of image) (state_of (fresh_bytes (row_count image))) (trace_periods trace k)

-- "the number of period records it read": the fewest that decide, or all of them
unfoldable pub records_read : (image trace : List ℕ) → ℕ
records_read image trace = first_failing (λ (k : ℕ). undecided (state_after_records image trace k)) 0 (period_records trace)
