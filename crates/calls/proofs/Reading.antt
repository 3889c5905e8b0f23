-- How far decide reads. Document 02, "Stop reading once it is decided".
use Prim.Native.Nat.{ℕ, zero, suc, ◌+◌, ◌≤◌, ◌<◌}
use native.Mathlib.Nat.{zero-add}
use native.Mathlib.Numerals.{add-one}
use native.Mathlib.Omega.{arith}
use mathlib.Core.Bool.{Bool, true, false, cond, false≢true}
use mathlib.Core.List.{List}
use mathlib.Core.Logic.{⊎_elim}
use mathlib.Core.Path.{◌≡◌, refl, sym, ◌∙◌}
use borrow.Author.Tests.{eqb-true, eqb-false}
use Rattle.records.specs.declared.Fault.TheVariants.{BadPeriod}
use Rattle.records.specs.Refusals.{Passed, Refused, first_failing}
use Rattle.records.proofs.Cases.{lt_or_le, true_or_false}
use Rattle.records.proofs.Searches.{failing_max, failing_below, failing_fails, failing_is, all_pass}
use Rattle.periods.specs.Traces.{period_at, periods_of, marked_at, form_of, period_records, trace_periods, start_test}
use Rattle.periods.proofs.Traces.{start_refused, length-periods_of, periods_split, marks_pass, marks_refused}
use Rattle.layout.specs.Images.{row_count, image_of}
use Rattle.layout.specs.Refusals.{image_test}
use Rattle.states.specs.States.{state_of, fresh_bytes}
use Rattle.states.proofs.Fresh.{fresh_read}
use Rattle.machine.specs.Machine.{undecided, after_period, after_periods}
use Rattle.machine.proofs.Machine.{decides_now, after_append, after_snoc, periods_after_periods, stays_decided}
use Rattle.calls.specs.Reading.{state_after_records, records_read}
use Rattle.calls.specs.Refusals.{unread_test, decide_test}

module _ (image trace : List ℕ) where
  abbrev pub undecided_after : ℕ → Bool
  undecided_after k = undecided (state_after_records image trace k)

  pub few_read : records_read image trace ≤ period_records trace
  unfolding records_read
  few_read = rw zero-add at (failing_max undecided_after 0 (period_records trace))

  -- no record is read after the decision
  pub undecided_before : (k : ℕ) → k < records_read image trace → undecided_after k ≡ true
  unfolding records_read
  undecided_before k l = failing_below undecided_after 0 (period_records trace) k (omega arith) l

  next_state : (k : ℕ) → state_after_records image trace (suc k) ≡ after_period (image_of image) (period_at (form_of trace) trace k) (state_after_records image trace k)
  unfolding state_after_records periods_of
  next_state k = after_snoc (image_of image) (state_of (fresh_bytes (row_count image))) (trace_periods trace k) (period_at (form_of trace) trace k)

  undecided_first : undecided_after 0 ≡ true
  unfolding state_after_records periods_of after_periods
  undecided_first = rw (fresh_read (row_count image))

  taken_after : (k : ℕ) → (state_after_records image trace k).periods ≡ k
  unfolding state_after_records
  taken_after k =
      periods_after_periods (image_of image) (state_of (fresh_bytes (row_count image))) (trace_periods trace k)
      ∙ rw (fresh_read (row_count image), length-periods_of (form_of trace) trace k) (zero-add k)

  -- a period after which the state is decided for the first time is the decision period
  decision_here : (k : ℕ) → undecided_after k ≡ true → undecided_after (suc k) ≡ false → (state_after_records image trace (suc k)).decision ≡ suc k
  decision_here k o d =
      let s = state_after_records image trace k in
      rw (next_state k)
      (decides_now (image_of image) (period_at (form_of trace) trace k) s (eqb-true s.outcome 0 o) (rw (next_state k) at (eqb-false (state_after_records image trace (suc k)).outcome 0 d))
      ∙ rw (taken_after k) (add-one k))

  -- a state that is undecided was so before
  undecided-below : (k j : ℕ) → j ≤ k → undecided_after k ≡ true → undecided_after j ≡ true
  unfolding state_after_records
  undecided-below k j l o =
      ⊎_elim (λ t. t)
      (λ f. let s = state_after_records image trace j in
      let no = eqb-false s.outcome 0 f in
      let v = periods_split (form_of trace) trace j k l in
      let same = stays_decided (image_of image) s v.0 no in
      let is = eqb-true (state_after_records image trace k).outcome 0 o in
      absurd (no (sym same.outcome_same ∙ rw (v.1, after_append (image_of image) (state_of (fresh_bytes (row_count image))) (trace_periods trace j) v.0) at is)))
      (true_or_false (undecided_after j))

  -- so a record is read where those before it leave the state undecided, and only there
  pub read_on : (k : ℕ) → k < period_records trace → undecided_after k ≡ true → k < records_read image trace
  unfolding records_read
  read_on k i o =
      let f = first_failing undecided_after 0 (period_records trace) in
      ⊎_elim (λ h. h)
      (λ (h : f ≤ k).
      let below : f < 0 + period_records trace = omega arith in
      absurd (false≢true (sym (failing_fails undecided_after 0 (period_records trace) below) ∙ undecided-below k f h o)))
      (lt_or_le k f)

  pub read_no_more : (k : ℕ) → undecided_after k ≡ false → records_read image trace ≤ k
  read_no_more k o = ⊎_elim (λ h. absurd (false≢true (sym o ∙ undecided_before k h))) (λ h. h) (lt_or_le k (records_read image trace))

  -- it is as many as leave the state undecided up to there, and all or decided there
  pub read_exactly : (r : ℕ) → r ≤ period_records trace → ((i : ℕ) → i < r → undecided_after i ≡ true) → (r < period_records trace → undecided_after r ≡ false) → records_read image trace ≡ r
  unfolding records_read
  read_exactly r h below here =
      ⊎_elim
      (λ (l : r < period_records trace). failing_is undecided_after (period_records trace) r l below (here l))
      (λ (l : period_records trace ≤ r). let e : period_records trace ≡ r = omega arith in rw e (all_pass undecided_after r below))
      (lt_or_le r (period_records trace))

  -- "That number is the decision period, or the trace's record count when undecided."
  pub read_is : let s = state_after_records image trace (records_read image trace) in
      records_read image trace ≡ cond (undecided s) (period_records trace) s.decision
  read_is = of (records_read image trace) refl
    where
      of : (r : ℕ) → records_read image trace ≡ r → r ≡ cond (undecided_after r) (period_records trace) (state_after_records image trace r).decision
      of zero e = rw undecided_first (⊎_elim (λ (h : 0 < period_records trace). absurd (let l = read_on 0 h undecided_first in omega arith)) (λ h. omega arith) (lt_or_le 0 (period_records trace)))
      of (suc k) e =
          ⊎_elim
          (λ t. rw t (⊎_elim (λ (h : suc k < period_records trace). absurd (let l = read_on (suc k) h t in omega arith)) (λ h. let f = few_read in omega arith) (lt_or_le (suc k) (period_records trace))))
          (λ f. rw f (sym (decision_here k (undecided_before k (omega arith)) f)))
          (true_or_false (undecided_after (suc k)))

-- ---- refusal 11

-- by what is tested before the later marks, the first record's among them: at 0
pub bad_start_refused : (image trace : List ℕ) → image_test image ≡ Passed → ¬ (start_test trace ≡ Passed) → decide_test image trace ≡ Refused BadPeriod 0
unfolding decide_test unread_test
bad_start_refused image trace g e = rw (g, start_refused trace e)

-- past these, the first later record of another mark refuses exactly where those before it leave the state undecided
module _ (image trace : List ℕ) (u : unread_test image trace ≡ Passed) (k : ℕ) (i : k < period_records trace)
    (m : (j : ℕ) → j < k → marked_at (form_of trace) trace j ≡ true) (bad : marked_at (form_of trace) trace k ≡ false) where
  pub bad_mark_refused : undecided (state_after_records image trace k) ≡ true → decide_test image trace ≡ Refused BadPeriod k
  unfolding decide_test
  bad_mark_refused o = rw u (marks_refused (form_of trace) trace (records_read image trace) k (read_on image trace k i o) m bad)

  pub bad_mark_unread : undecided (state_after_records image trace k) ≡ false → decide_test image trace ≡ Passed
  unfolding decide_test
  bad_mark_unread o =
      let l = read_no_more image trace k o in
      rw u (marks_pass (form_of trace) trace (records_read image trace) (λ j h. m j (omega arith)))
