-- Where the code's loop stops is as far as decide reads, and what follows is what decide gives. Document 02, "Stop reading once it is decided".
use Prim.Native.Nat.{ℕ, ◌+◌, ◌≤◌, ◌<◌}
use native.Mathlib.Nat.{zero-add}
use native.Mathlib.Omega.{arith}
use mathlib.Core.Bool.{true, false, and-eq-true_iff}
use mathlib.Core.List.{List}
use mathlib.Core.Logic.{⊎_elim}
use mathlib.Core.Path.{◌≡◌, sym, ap, ◌∙◌}
use borrow.Author.Tests.{eq-eqb, eqb-true}
use lib.ListN.{length}
use Rattle.records.specs.declared.Fault.TheVariants.{BadPeriod}
use Rattle.std.specs.Prelude.{Err}
use Rattle.records.specs.Refusals.{Passed, given, first_failing}
use Rattle.records.proofs.Cases.{true_or_false}
use Rattle.records.proofs.Searches.{failing_max, failing_below, failing_fails}
use Rattle.periods.specs.Periods.{Period}
use Rattle.periods.specs.Traces.{marked_at, form_of, period_records, trace_periods}
use Rattle.periods.proofs.Traces.{length-periods_of, marks_pass}
use Rattle.layout.specs.Images.{row_count}
use Rattle.states.specs.States.{State, state_of, fresh_bytes}
use Rattle.machine.specs.Premises.{Ready, goes_on, Takes}
use Rattle.machine.proofs.Steps.{later_read}
use Rattle.calls.specs.Reading.{state_after_records, records_read}
use Rattle.calls.specs.Refusals.{unread_test, decide_test}
use Rattle.decider.specs.Decisions.{decision_after, decision_of}
use Rattle.calls.proofs.Refusals.{unread_ready}
use Rattle.calls.proofs.Reading.{undecided_after, read_exactly, bad_mark_refused}

module _ (image trace : List ℕ) (u : unread_test image trace ≡ Passed) where
  abbrev fresh : List ℕ
  fresh = fresh_bytes (row_count image)

  abbrev total : ℕ
  total = period_records trace

  ready : Ready image fresh total
  ready = unread_ready image trace u

  module _ (r : ℕ) (later : List ℕ) (t : Takes true image fresh (form_of trace) trace total later r) where
    abbrev taken : List Period
    taken = trace_periods trace r

    pub stops_within : r ≤ total
    stops_within = rw t.count (rw zero-add at (failing_max (goes_on true image fresh (form_of trace) trace) 0 total))

    went_on : (i : ℕ) → i < r → (undecided_after image trace i ≡ true) × (marked_at (form_of trace) trace i ≡ true)
    unfolding goes_on state_after_records
    went_on i l = (and-eq-true_iff (undecided_after image trace i) (marked_at (form_of trace) trace i)).0 (failing_below (goes_on true image fresh (form_of trace) trace) 0 total i (omega arith) (rw t.count at l))

    -- at the end, or decided: so many are read, and all have the mark
    pub stops_read : ¬ ((r < total) × (undecided_after image trace r ≡ true)) → (records_read image trace ≡ r) × (decide_test image trace ≡ Passed)
    unfolding decide_test
    stops_read stop =
        let here : r < total → undecided_after image trace r ≡ false = λ l. ⊎_elim (λ o. absurd (stop (l, o))) (λ f. f) (true_or_false (undecided_after image trace r)) in
        let e = read_exactly image trace r stops_within (λ i j. (went_on i j).0) here in
        (e, rw (u, e) (marks_pass (form_of trace) trace r (λ i l. (went_on i l).1)))

    -- undecided before the end: more is read, and the next record has another mark
    bad_next : r < total → undecided_after image trace r ≡ true → marked_at (form_of trace) trace r ≡ false
    unfolding goes_on state_after_records
    bad_next l o =
        let f = first_failing (goes_on true image fresh (form_of trace) trace) 0 total in
        let below : f < 0 + total = omega (arith, t.count) in
        rw o at (rw (← t.count) at (failing_fails (goes_on true image fresh (form_of trace) trace) 0 total below))

    few_taken : length taken ≤ total
    few_taken = rw (length-periods_of (form_of trace) trace r) stops_within

    left_state : state_of later ≡ state_after_records image trace r
    unfolding state_after_records
    left_state = rw t.leaves (later_read image fresh total ready taken few_taken)

    left_outcome : (state_of later).outcome ≡ (state_after_records image trace r).outcome
    left_outcome = ap (λ (s : State). s.outcome) left_state

    -- ---- what decide gives

    pub decides_refused : r < total → (state_of later).outcome ≡ 0 → Err (record { fault = BadPeriod; place = r }) ≡ decision_of image trace
    unfolding decision_of
    decides_refused l o =
        let is : undecided_after image trace r ≡ true = eq-eqb _ _ (sym left_outcome ∙ o) in
        rw (bad_mark_refused image trace u r l (λ i j. (went_on i j).1) (bad_next l is) is)

    pub decides_read : ¬ ((r < total) × ((state_of later).outcome ≡ 0)) → given Passed (decision_after (state_of later) r) ≡ decision_of image trace
    unfolding decision_of
    decides_read stop =
        let e = stops_read (λ p. stop (p.0, left_outcome ∙ eqb-true _ _ p.1)) in
        rw (e.1, e.0, left_state)
