-- Traces with the same attempts get the same replies and leave the same states: so do a narrow trace and the wide one with its attempts. Document 02,
-- "Thirty-two actions".
use Prim.Native.Nat.{ℕ, ◌≤◌}
use native.Mathlib.Omega.{arith}
use mathlib.Core.List.{List}
use mathlib.Core.Path.{◌≡◌, sym, ap, ◌∙◌}
use lib.ListN.{length}
use Rattle.records.specs.Holding.{AllBytes}
use Rattle.records.proofs.Refusals.{first_passed}
use Rattle.records.proofs.Searches.{failing_same}
use Rattle.periods.specs.declared.Form.TheVariants.{Wide}
use Rattle.periods.specs.Traces.{marks_test, form_of, period_records, trace_periods, start_test, trace_test, period_in, period_test}
use Rattle.periods.specs.Making.{record_of}
use Rattle.periods.specs.SameAttempts.{in_wide, SameAttempts}
use Rattle.periods.proofs.Traces.{length-periods_of, marks_pass, trace_marks}
use Rattle.periods.proofs.Making.{wide_marked}
use Rattle.periods.proofs.SameAttempts.{as_many, same_periods, in_wide_lem, record_in_wide}
use Rattle.layout.specs.Images.{row_count, image_of}
use Rattle.states.specs.States.{state_of, fresh_bytes}
use Rattle.machine.specs.Machine.{undecided, after_periods}
use Rattle.calls.specs.Reading.{state_after_records, records_read}
use Rattle.calls.specs.Refusals.{step_test, run_test, unread_test, decide_test}
use Rattle.calls.specs.Calls.{step, run, decide}
use Rattle.calls.proofs.Refusals.{unread_passed, decide_unread, decide_marks}
use Rattle.calls.proofs.Reading.{few_read}
use Rattle.records.specs.Refusals.{Passed}

-- ---- the same attempts, and marks of which the same is found: of all records by run, of the records read by decide

module _ (t u : List ℕ) (s : SameAttempts t u) (image : List ℕ) where
  abbrev SameMarks : ℕ → Type 0
  SameMarks n = marks_test (form_of u) u n ≡ marks_test (form_of t) t n

  pub same_run : SameMarks (period_records t) → (state reply : List ℕ) → run image state u reply ≡ run image state t reply
  unfolding run run_test trace_test
  same_run m state reply = rw (as_many t u s, s.starts, m, same_periods t u s (period_records t) (omega arith))

  same_states : (k : ℕ) → k ≤ period_records t → state_after_records image u k ≡ state_after_records image t k
  unfolding state_after_records
  same_states k h = ap (after_periods (image_of image) (state_of (fresh_bytes (row_count image)))) (same_periods t u s k h)

  same_read : records_read image u ≡ records_read image t
  unfolding records_read
  same_read =
      rw (as_many t u s)
      (failing_same (λ (k : ℕ). undecided (state_after_records image u k)) (λ (k : ℕ). undecided (state_after_records image t k)) 0 (period_records t)
      (λ k i. rw (same_states k (omega arith))))

  pub same_decide : SameMarks (records_read image t) → (reply : List ℕ) → decide image u reply ≡ decide image t reply
  unfolding decide decide_test unread_test
  same_decide m reply = rw (same_read, s.starts, as_many t u s, m, same_states (records_read image t) (few_read image t))

-- of a step's one record
pub same_step : (p q : List ℕ) → period_test q ≡ period_test p → period_in q ≡ period_in p → (image state reply : List ℕ)
    → step image state q reply ≡ step image state p reply
unfolding step step_test
same_step p q t x image state reply = rw (t, x)

-- ---- so two traces that run takes, with the same periods

module _ (t u : List ℕ) (p : trace_test t ≡ Passed) (q : trace_test u ≡ Passed) (e : trace_periods u (period_records u) ≡ trace_periods t (period_records t)) where
  good_same : SameAttempts t u
  unfolding trace_test
  good_same = record { starts = (first_passed (start_test u) _ q).0 ∙ sym (first_passed (start_test t) _ p).0; periods = e }

  good_marks : (n : ℕ) → n ≤ period_records t → marks_test (form_of u) u n ≡ marks_test (form_of t) t n
  good_marks n h =
      let m : n ≤ period_records u = rw (as_many t u good_same) h in
      marks_pass (form_of u) u n (λ i l. trace_marks u q i (omega arith)) ∙ sym (marks_pass (form_of t) t n (λ i l. trace_marks t p i (omega arith)))

  pub good_run : (image state reply : List ℕ) → run image state u reply ≡ run image state t reply
  good_run image = same_run t u good_same image (good_marks (period_records t) (omega arith))

  pub good_decide : (image reply : List ℕ) → decide image u reply ≡ decide image t reply
  good_decide image = same_decide t u good_same image (good_marks (records_read image t) (few_read image t))

-- ---- and the wide trace with the same attempts: for run of a trace that it takes, for decide also of one with other marks after the decision

module _ (trace : List ℕ) (b : AllBytes trace) where
  wide_marks : (n : ℕ) → n ≤ period_records trace → marks_test (form_of (in_wide trace)) (in_wide trace) n ≡ Passed
  wide_marks n h =
      let w = trace_periods trace (period_records trace) in
      let e : length w ≡ period_records trace = length-periods_of (form_of trace) trace (period_records trace) in
      marks_pass (form_of (in_wide trace)) (in_wide trace) n (λ i l. wide_marked w i (omega arith))

  pub wide_run : trace_test trace ≡ Passed → (image state reply : List ℕ) → run image state (in_wide trace) reply ≡ run image state trace reply
  unfolding trace_test
  wide_run t image =
      let p = first_passed (start_test trace) _ t in
      same_run trace (in_wide trace) (in_wide_lem trace b p.0) image (wide_marks (period_records trace) (omega arith) ∙ sym p.1)

  pub wide_decide : (image : List ℕ) → decide_test image trace ≡ Passed → (reply : List ℕ) → decide image (in_wide trace) reply ≡ decide image trace reply
  wide_decide image t =
      let n = records_read image trace in
      same_decide trace (in_wide trace) (in_wide_lem trace b (unread_passed image trace (decide_unread image trace t)).1) image
      (wide_marks n (few_read image trace) ∙ sym (marks_pass (form_of trace) trace n (decide_marks image trace t)))

pub wide_step : (r : List ℕ) → AllBytes r → period_test r ≡ Passed → (image state reply : List ℕ)
    → step image state (record_of Wide (period_in r)) reply ≡ step image state r reply
wide_step r b t = let w = record_in_wide r b in same_step r (record_of Wide (period_in r)) (w.0 ∙ sym t) w.1
