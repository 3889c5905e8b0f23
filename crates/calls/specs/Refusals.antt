-- The tests of begin, step, run and decide, in their order. Document 01, "Replies that refuse"; document 02, "Stop reading once it is decided" and
-- "Thirty-two actions".
use Rattle.std.specs.Prelude.{ℕ, List}
use Rattle.records.specs.Refusals.{Test, first_of}
use Rattle.periods.specs.Traces.{marks_test, form_of, period_records, start_test, trace_test, period_test}
use Rattle.layout.specs.Images.{row_count}
use Rattle.layout.specs.Refusals.{image_test}
use Rattle.states.specs.States.{state_of}
use Rattle.states.specs.Refusals.{state_length_test, state_test, count_test}
use Rattle.calls.specs.Reading.{records_read}

unfoldable pub begin_test : List ℕ → List ℕ → Test
begin_test image state = first_of (image_test image) (state_length_test (row_count image) state)

-- what step and run have in common: the image, then the state
unfoldable pub ready_test : List ℕ → List ℕ → Test
ready_test image state = first_of (image_test image) (state_test (row_count image) state)

unfoldable pub step_test : List ℕ → List ℕ → List ℕ → Test
step_test image state period =
    first_of (ready_test image state) (first_of (period_test period) (count_test (state_of state).periods 1))

unfoldable pub run_test : List ℕ → List ℕ → List ℕ → Test
run_test image state trace =
    first_of (ready_test image state) (first_of (trace_test trace) (count_test (state_of state).periods (period_records trace)))

-- what decide tests before it reads a record: "After 9, length is still tested first", and before it now "the first record's mark"; "A trace of more than
-- 4,294,967,295 records meets 12 next."
unfoldable pub unread_test : List ℕ → List ℕ → Test
unread_test image trace =
    first_of (image_test image) (first_of (start_test trace) (count_test 0 (period_records trace)))

-- then the marks of the records read: "Records after the decision aren't looked at, so a bad mark there is no refusal in this call."
unfoldable pub decide_test : List ℕ → List ℕ → Test
decide_test image trace = first_of (unread_test image trace) (marks_test (form_of trace) trace (records_read image trace))
