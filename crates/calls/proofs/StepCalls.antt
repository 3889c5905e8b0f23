-- What step calls do to a state, one after the other: a refused call leaves it as it was, an accepted one counts a period and
-- leaves a sound state of the same length, and a decision never changes. Begin's state is sound.
use Prim.Native.Nat.{ℕ, ◌+◌, ◌≤◌}
use native.Mathlib.Nat.{add-zero, add_assoc}
use native.Mathlib.Omega.{arith}
use mathlib.Core.Bool.{true, false, and-eq-true_iff}
use mathlib.Core.List.{List, [], ◌∷◌}
use mathlib.Core.Logic.{◌⊎◌, ⊎_elim}
use mathlib.Core.Path.{◌≡◌, refl, sym, ap, ◌∙◌}
use borrow.Author.Tests.{leb-true, le-leb}
use lib.Dec.{leb}
use lib.ListN.{length, replicate}
use Rattle.records.specs.Refusals.{Passed, passed}
use Rattle.records.proofs.Cases.{lt_or_le, true_or_false}
use Rattle.records.proofs.Refusals.{passed_first, passed_is, passed-not}
use Rattle.records.specs.Replies.{alone, After, written, head_size}
use Rattle.records.proofs.Replies.{call_no_room, call-passed, call_refused}
use Rattle.periods.specs.Traces.{period_in}
use Rattle.layout.specs.Images.{row_count, image_of}
use Rattle.layout.specs.Refusals.{image_test}
use Rattle.states.specs.Limits.{head_bytes}
use Rattle.states.specs.States.{state_of, state_bytes, fresh_bytes}
use Rattle.states.specs.Refusals.{state_test}
use Rattle.states.proofs.Refusals.{state_passed}
use Rattle.states.proofs.Fresh.{fresh_passes}
use Rattle.machine.specs.Machine.{after_period, after_periods}
use Rattle.machine.specs.Premises.{Ready}
use Rattle.machine.proofs.Machine.{SameDecision, stays_decided, periods_after_lem}
use Rattle.machine.proofs.Steps.{later_ready, step_read}
use Rattle.calls.specs.Refusals.{begin_test, ready_test, step_test}
use Rattle.calls.specs.Calls.{step_reply_bytes, answer, begin, step}
use Rattle.calls.specs.StepCalls.{StepCall, accepted, state_after_call, state_after, accepted_count}
use Rattle.calls.proofs.Refusals.{begin-passed, ready_passed, step_ready}

-- ---- one call

module _ (image state : List ℕ) (c : StepCall) where
  -- what an accepted call has shown
  pub accepted-passed : accepted image state c ≡ true → step_test image state c.period ≡ Passed
  unfolding accepted
  accepted-passed e =
      let t = step_test image state c.period in
      passed_is t ((and-eq-true_iff (leb step_reply_bytes (length c.reply)) (passed t)).0 e).1

  accepted_room : accepted image state c ≡ true → step_reply_bytes ≤ length c.reply
  unfolding accepted
  accepted_room e =
      let t = step_test image state c.period in
      leb-true step_reply_bytes (length c.reply) ((and-eq-true_iff (leb step_reply_bytes (length c.reply)) (passed t)).0 e).0

  -- an accepted call takes its record's period
  pub accepted-step : accepted image state c ≡ true
      → step image state c.period c.reply
      ≡ written (state_bytes (after_period (image_of image) (period_in c.period) (state_of state))) c.reply Passed
      (answer (after_period (image_of image) (period_in c.period) (state_of state)))
  unfolding step
  accepted-step e =
      call-passed (step_test image state c.period) _ _ _ c.reply (accepted_room e) (accepted-passed e)

  -- a refused call leaves the state as it was
  pub refused_step : accepted image state c ≡ false → state_after_call image state c ≡ state
  unfolding accepted state_after_call step
  refused_step e =
      let t = step_test image state c.period in
      let keeps : (left : After (List ℕ)) → step image state c.period c.reply ≡ left → left.buffers ≡ state → (step image state c.period c.reply).buffers ≡ state
      = λ left q k. ap (λ (x : After (List ℕ)). x.buffers) q ∙ k in
      ⊎_elim (λ h. keeps _ (call_no_room t _ state _ c.reply h) refl)
      (λ h. keeps _ (call_refused t _ state _ c.reply h (passed-not t (rw (le-leb step_reply_bytes (length c.reply) h) at e))) refl)
      (lt_or_le (length c.reply) step_reply_bytes)

  -- an accepted call leaves the state's bytes of the period after
  pub taken_step : accepted image state c ≡ true → state_after_call image state c ≡ state_bytes (after_period (image_of image) (period_in c.period) (state_of state))
  unfolding state_after_call
  taken_step e = ap (λ (x : After (List ℕ)). x.buffers) (accepted-step e)

  pub taken_read : accepted image state c ≡ true → state_of (state_after_call image state c) ≡ after_period (image_of image) (period_in c.period) (state_of state)
  taken_read e = rw (taken_step e) (step_read image state (step_ready image state c.period (accepted-passed e)) (period_in c.period))

  -- which of the two it is
  pub either : (accepted image state c ≡ true) ⊎ (accepted image state c ≡ false)
  either = true_or_false (accepted image state c)

-- ---- any list of calls

ready_zero : (image state : List ℕ) → Ready image state 0 → ready_test image state ≡ Passed
unfolding ready_test
ready_zero image state h = passed_first (image_test image) (state_test (row_count image) state) h.good h.sound

call_ready : (image state : List ℕ) (c : StepCall) → accepted image state c ≡ true → Ready image (state_after_call image state c) 0
unfolding after_periods
call_ready image state c e =
    rw (taken_step image state c e)
    (later_ready image state 1 (step_ready image state c.period (accepted-passed image state c e)) (period_in c.period ∷ []) (omega arith))

call-sound : (image state : List ℕ) (c : StepCall) → ready_test image state ≡ Passed → ready_test image (state_after_call image state c) ≡ Passed
call-sound image state c h =
    ⊎_elim (λ e. ready_zero image (state_after_call image state c) (call_ready image state c e)) (λ e. rw (refused_step image state c e) h) (either image state c)

sound-length : (image state : List ℕ) → ready_test image state ≡ Passed → length state ≡ head_bytes + row_count image
sound-length image state h = (state_passed (row_count image) state (ready_passed image state h).1).0

call_decision : (image state : List ℕ) (c : StepCall) → ¬ ((state_of state).outcome ≡ 0)
    → SameDecision (state_of state) (state_of (state_after_call image state c))
unfolding after_periods
call_decision image state c d =
    ⊎_elim (λ e. rw (taken_read image state c e) (stays_decided (image_of image) (state_of state) (period_in c.period ∷ []) d))
    (λ e. rw (refused_step image state c e) (record { outcome_same = refl; blame_same = refl; decision_same = refl })) (either image state c)

-- a sound state of the image's length stays one for ever
pub stays_sound : (image state : List ℕ) (cs : List StepCall) → ready_test image state ≡ Passed → ready_test image (state_after image state cs) ≡ Passed
unfolding state_after
stays_sound image state [] h = h
stays_sound image state (c ∷ cs) h = stays_sound image (state_after_call image state c) cs (call-sound image state c h)

pub same_length : (image state : List ℕ) (cs : List StepCall) → ready_test image state ≡ Passed → length (state_after image state cs) ≡ length state
same_length image state cs h = sound-length image (state_after image state cs) (stays_sound image state cs h) ∙ sym (sound-length image state h)

-- periods taken is the number of accepted calls
pub counts_accepted : (image state : List ℕ) (cs : List StepCall)
    → (state_of (state_after image state cs)).periods ≡ (state_of state).periods + accepted_count image state cs
unfolding state_after accepted_count
counts_accepted image state [] = sym (add-zero (state_of state).periods)
counts_accepted image state (c ∷ cs) =
    let next = state_after_call image state c in
    let more = accepted_count image next cs in
    counts_accepted image next cs
    ∙ ⊎_elim (λ e. rw (taken_read image state c e, periods_after_lem (image_of image) (period_in c.period) (state_of state), e) (add_assoc (state_of state).periods 1 more))
    (λ e. rw (refused_step image state c e, e) (omega arith)) (either image state c)

-- after the decision outcome, blame and decision period never change
pub keeps_decision : (image state : List ℕ) (cs : List StepCall) → ¬ ((state_of state).outcome ≡ 0)
    → SameDecision (state_of state) (state_of (state_after image state cs))
unfolding state_after
keeps_decision image state [] d = record { outcome_same = refl; blame_same = refl; decision_same = refl }
keeps_decision image state (c ∷ cs) d =
    let h = call_decision image state c d in
    let k = keeps_decision image (state_after_call image state c) cs (λ e. d (sym h.outcome_same ∙ e)) in
    record {
      outcome_same = k.outcome_same ∙ h.outcome_same;
      blame_same = k.blame_same ∙ h.blame_same;
      decision_same = k.decision_same ∙ h.decision_same;
    }

-- ---- begin

-- begin leaves that state, which is sound
module _ (image state reply : List ℕ) (r : head_size ≤ length reply) (h : begin_test image state ≡ Passed) where
  pub begin-written : begin image state reply ≡ written (replicate (length state) 0) reply Passed (alone 0)
  unfolding begin
  begin-written = call-passed (begin_test image state) _ _ _ reply r h

  pub begin_state : (begin image state reply).buffers ≡ fresh_bytes (row_count image)
  begin_state = ap (λ (x : After (List ℕ)). x.buffers) begin-written ∙ rw (begin-passed image state h).1

  pub begin-sound : ready_test image (begin image state reply).buffers ≡ Passed
  unfolding ready_test
  begin-sound =
      passed_first (image_test image) (state_test (row_count image) (begin image state reply).buffers) (begin-passed image state h).0
      (rw begin_state (fresh_passes (row_count image)))
