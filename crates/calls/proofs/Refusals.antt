-- What passed tests of begin, step, run and decide show, and which faults they can give. Document 01, "Replies that refuse"; document 02, "Stop
-- reading once it is decided".
use Prim.Native.Nat.{ℕ, ◌+◌, ◌≤◌, ◌<◌}
use native.Mathlib.Omega.{arith}
use mathlib.Core.Path.{◌≡◌}
use mathlib.Core.Bool.{true}
use mathlib.Core.List.{List, ◌++◌}
use lib.ListN.{length}
use borrow.Author.Tests.{eq-eqb}
use Rattle.records.specs.declared.Fault.{Fault}
use Rattle.records.specs.Refusals.{Test, Passed, first_of}
use Rattle.records.proofs.Refusals.{first_passed, only_for, only_among, only_append, only_first}
use Rattle.periods.specs.Traces.{marked_at, marks_test, form_of, period_records, start_test, trace_test, period_test}
use Rattle.periods.proofs.Traces.{marks_passed, trace_marks, period_one, period_faults, marks_only, period_only, start_only, trace_only}
use Rattle.layout.specs.Images.{row_count}
use Rattle.layout.specs.Refusals.{image_test}
use Rattle.layout.proofs.Images.{image_faults, image_only}
use Rattle.states.specs.Limits.{head_bytes, max_periods}
use Rattle.states.specs.States.{state_of, fresh_bytes}
use Rattle.states.specs.Refusals.{state_length_test, state_test, count_test}
use Rattle.states.proofs.Fresh.{fresh_read, fresh_passes}
use Rattle.states.proofs.Refusals.{length-passed, state_passed, passed_count, passes_count, state_faults, count_faults, length_only, state_only, count_only}
use Rattle.machine.specs.Premises.{Ready}
use Rattle.calls.specs.Reading.{records_read}
use Rattle.calls.specs.Refusals.{begin_test, ready_test, step_test, run_test, unread_test, decide_test}

-- a good image and a state as long as its rows ask pass begin's tests
pub begin_passes : (image state : List ℕ) → image_test image ≡ Passed → length state ≡ head_bytes + row_count image → begin_test image state ≡ Passed
unfolding begin_test
begin_passes image state g e = rw (g, eq-eqb (length state) (head_bytes + row_count image) e)

pub begin-passed : (image state : List ℕ) → begin_test image state ≡ Passed → (image_test image ≡ Passed) × (length state ≡ head_bytes + row_count image)
unfolding begin_test
begin-passed image state h =
    let b = first_passed (image_test image) (state_length_test (row_count image) state) h in
    (b.0, length-passed (row_count image) state b.1)

pub ready_passed : (image state : List ℕ) → ready_test image state ≡ Passed → (image_test image ≡ Passed) × (state_test (row_count image) state ≡ Passed)
unfolding ready_test
ready_passed image state e = first_passed (image_test image) (state_test (row_count image) state) e

pub ready_head : (image state : List ℕ) → ready_test image state ≡ Passed → head_bytes ≤ length state
ready_head image state e =
    let f = state_passed (row_count image) state (ready_passed image state e).1 in
    omega (arith, f.0)

-- the tests of image, state and count, with that of the records between them
tests_ready : (image state : List ℕ) (t : Test) (n : ℕ) → first_of (ready_test image state) (first_of t (count_test (state_of state).periods n)) ≡ Passed
    → Ready image state n × (t ≡ Passed)
tests_ready image state t n e =
    let a = first_passed (ready_test image state) (first_of t (count_test (state_of state).periods n)) e in
    let b = first_passed t (count_test (state_of state).periods n) a.1 in
    let r = ready_passed image state a.0 in
    (record { good = r.0; sound = r.1; room = passed_count (state_of state).periods n b.1 }, b.0)

pub step_ready : (image state period : List ℕ) → step_test image state period ≡ Passed → Ready image state 1
unfolding step_test
step_ready image state period e = (tests_ready image state (period_test period) 1 e).0

pub step_record : (image state period : List ℕ) → step_test image state period ≡ Passed → period_records period ≡ 1
unfolding step_test
step_record image state period e = period_one period (tests_ready image state (period_test period) 1 e).1

pub run_ready : (image state trace : List ℕ) → run_test image state trace ≡ Passed → Ready image state (period_records trace)
unfolding run_test
run_ready image state trace e = (tests_ready image state (trace_test trace) (period_records trace) e).0

pub run_marks : (image state trace : List ℕ) → run_test image state trace ≡ Passed → (i : ℕ) → i < period_records trace → marked_at (form_of trace) trace i ≡ true
unfolding run_test
run_marks image state trace e = trace_marks trace (tests_ready image state (trace_test trace) (period_records trace) e).1

-- decide's, before it reads a record
pub unread_passed : (image trace : List ℕ) → unread_test image trace ≡ Passed
    → (image_test image ≡ Passed) × (start_test trace ≡ Passed) × (period_records trace ≤ max_periods)
unfolding unread_test
unread_passed image trace e =
    let a = first_passed (image_test image) (first_of (start_test trace) (count_test 0 (period_records trace))) e in
    let b = first_passed (start_test trace) (count_test 0 (period_records trace)) a.1 in
    let c = passed_count 0 (period_records trace) b.1 in
    (a.0, b.0, omega arith)

pub unread_passes : (image trace : List ℕ) → image_test image ≡ Passed → start_test trace ≡ Passed → period_records trace ≤ max_periods
    → unread_test image trace ≡ Passed
unfolding unread_test
unread_passes image trace g l n = rw (g, l) (passes_count 0 (period_records trace) (omega arith))

pub unread_ready : (image trace : List ℕ) → unread_test image trace ≡ Passed → Ready image (fresh_bytes (row_count image)) (period_records trace)
unread_ready image trace e =
    let u = unread_passed image trace e in
    record { good = u.0; sound = fresh_passes (row_count image); room = rw (fresh_read (row_count image)) (omega (arith, u.2)) }

-- and with the marks of the records read
pub decide_unread : (image trace : List ℕ) → decide_test image trace ≡ Passed → unread_test image trace ≡ Passed
unfolding decide_test
decide_unread image trace e = (first_passed (unread_test image trace) (marks_test (form_of trace) trace (records_read image trace)) e).0

pub decide_marks : (image trace : List ℕ) → decide_test image trace ≡ Passed → (i : ℕ) → i < records_read image trace → marked_at (form_of trace) trace i ≡ true
unfolding decide_test
decide_marks image trace e =
    let n = records_read image trace in
    marks_passed (form_of trace) trace n (first_passed (unread_test image trace) (marks_test (form_of trace) trace n) e).1

-- ---- no test of these calls gives another fault

abbrev pub begin_faults : List Fault
begin_faults = image_faults ++ state_faults

abbrev pub step_faults : List Fault
step_faults = begin_faults ++ (period_faults ++ count_faults)

abbrev pub decide_faults : List Fault
decide_faults = image_faults ++ (period_faults ++ count_faults)

pub begin_only : (image state : List ℕ) → only_for begin_faults (begin_test image state) ≡ true
unfolding begin_test
begin_only image state =
    only_append image_faults state_faults (image_test image) (state_length_test (row_count image) state) (image_only image) (length_only (row_count image) state)

-- the image, the state, then records with this test, then their count
tests_only : (image state : List ℕ) (t : Test) (n : ℕ) → only_for period_faults t ≡ true
    → only_for step_faults (first_of (ready_test image state) (first_of t (count_test (state_of state).periods n))) ≡ true
unfolding ready_test
tests_only image state t n h =
    only_append (image_faults ++ state_faults) (period_faults ++ count_faults) (ready_test image state) (first_of t (count_test (state_of state).periods n))
    (only_append image_faults state_faults (image_test image) (state_test (row_count image) state) (image_only image) (state_only (row_count image) state))
    (only_append period_faults count_faults t (count_test (state_of state).periods n) h (count_only (state_of state).periods n))

pub step_only : (image state period : List ℕ) → only_for step_faults (step_test image state period) ≡ true
unfolding step_test
step_only image state period = tests_only image state (period_test period) 1 (period_only period)

pub run_only : (image state trace : List ℕ) → only_for step_faults (run_test image state trace) ≡ true
unfolding run_test
run_only image state trace = tests_only image state (trace_test trace) (period_records trace) (trace_only trace)

pub decide_only : (image trace : List ℕ) → only_for decide_faults (decide_test image trace) ≡ true
unfolding decide_test unread_test
decide_only image trace =
    let n = records_read image trace in
    only_first decide_faults (unread_test image trace) (marks_test (form_of trace) trace n)
    (only_append image_faults (period_faults ++ count_faults) (image_test image) (first_of (start_test trace) (count_test 0 (period_records trace)))
    (image_only image)
    (only_append period_faults count_faults (start_test trace) (count_test 0 (period_records trace)) (start_only trace) (count_only 0 (period_records trace))))
    (only_among image_faults period_faults count_faults (marks_test (form_of trace) trace n) (marks_only (form_of trace) trace n))
