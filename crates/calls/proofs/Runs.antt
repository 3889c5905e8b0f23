-- A run ends as the steps of its records do. A refused one is refused as every step is, by the image or the state; at 0, by a single byte, by the
-- first record's mark or by a length that leaves a record cut; or at the record whose step is refused first, except that a wrong mark anywhere (11) goes
-- before the count (12).
use Prim.Native.Nat.{ℕ, zero, suc, ◌+◌, ◌-◌, ◌%◌, ◌≤◌, ◌<◌}
use native.Mathlib.Numerals.{add-one}
use native.Mathlib.Omega.{arith}
use mathlib.Core.Bool.{true, false, cond}
use mathlib.Core.List.{List, [], ◌∷◌, ◌++◌}
use mathlib.Core.Logic.{⊎_elim}
use mathlib.Core.Path.{◌≡◌, refl, sym, ap, ◌∙◌}
use borrow.Author.Tests.{le-leb, lt-leb}
use lib.ListN.{length}
use lib.Seq.{sets}
use Rattle.records.specs.Holding.{AllBytes}
use Rattle.records.specs.declared.Fault.TheVariants.{BadPeriod, FullCount}
use Rattle.records.specs.Refusals.{Passed, Refused, passed}
use Rattle.records.proofs.Cases.{lt_or_le}
use Rattle.records.proofs.Fields.{field_lt}
use Rattle.records.proofs.Refusals.{first_refused}
use Rattle.records.specs.Replies.{reply_of, After, written}
use Rattle.records.proofs.Replies.{call_no_room, call-passed, call_refused}
use Rattle.periods.specs.Forms.{period_bytes}
use Rattle.periods.specs.Traces.{record_at, period_at, periods_of, marked_at, form_of, period_records, trace_periods, start_test, trace_test, period_test}
use Rattle.periods.proofs.Traces.{length-periods_of, start_refused, trace_refused, trace_passes, record_period, period_test_lem, period_refused}
use Rattle.layout.specs.Images.{image_of}
use Rattle.states.specs.Limits.{max_periods}
use Rattle.states.specs.States.{state_of, state_bytes}
use Rattle.states.specs.Refusals.{count_test}
use Rattle.states.proofs.States.{state_bytes-state_of}
use Rattle.states.proofs.Refusals.{passes_count}
use Rattle.machine.specs.Machine.{after_periods}
use Rattle.machine.specs.Premises.{Ready}
use Rattle.machine.proofs.Machine.{after_snoc, periods_after_periods}
use Rattle.machine.proofs.Steps.{ready_long, later_read, later_ready}
use Rattle.calls.specs.Refusals.{ready_test, step_test, run_test}
use Rattle.calls.specs.Calls.{step_reply_bytes, answer, step, run}
use Rattle.calls.specs.StepCalls.{StepCall, accepted, state_after_call, state_after, accepted_count, calls_of, EndsAsSteps, RefusedAt}
use Rattle.calls.proofs.Refusals.{ready_passed, run_ready, run_marks}
use Rattle.calls.proofs.StepCalls.{accepted-step, taken_step}

-- ---- steps that are accepted, and steps that are refused

module _ (image l : List ℕ) where
  step_passes : Ready image l 1 → (r : List ℕ) → period_test r ≡ Passed → step_test image l r ≡ Passed
  unfolding step_test ready_test
  step_passes h r t = rw (h.good, h.sound, t) (passes_count (state_of l).periods 1 h.room)

  step_refuses : {n : ℕ} → Ready image l n → (r : List ℕ) → period_test r ≡ Refused BadPeriod 0 → step_test image l r ≡ Refused BadPeriod 0
  unfolding step_test ready_test
  step_refuses h r t = rw (h.good, h.sound, t)

  step_full : Ready image l 0 → (state_of l).periods ≡ max_periods → (r : List ℕ) → period_test r ≡ Passed → step_test image l r ≡ Refused FullCount 0
  unfolding step_test ready_test count_test
  step_full h e r t = rw (h.good, h.sound, t, e)

  step-accepts : Ready image l 1 → (c : StepCall) → step_reply_bytes ≤ length c.reply → period_test c.period ≡ Passed → accepted image l c ≡ true
  unfolding accepted
  step-accepts h c r t = rw (le-leb step_reply_bytes (length c.reply) r) (ap passed (step_passes h c.period t))

ready_less : (image l : List ℕ) (j n : ℕ) → j ≤ n → Ready image l n → Ready image l j
ready_less image l j n i h = record { good = h.good; sound = h.sound; room = omega (arith, h.room) }

-- ---- the last call of a list

module _ (image : List ℕ) where
  after_last : (state : List ℕ) (cs : List StepCall) (c : StepCall)
      → state_after image state (cs ++ (c ∷ [])) ≡ state_after_call image (state_after image state cs) c
  unfolding state_after
  after_last state [] c = refl
  after_last state (d ∷ cs) c = after_last (state_after_call image state d) cs c

  count_last : (state : List ℕ) (cs : List StepCall) (c : StepCall)
      → accepted_count image state (cs ++ (c ∷ [])) ≡ accepted_count image state cs + cond (accepted image (state_after image state cs) c) 1 0
  unfolding state_after accepted_count
  count_last state [] c = omega arith
  count_last state (d ∷ cs) c = rw (count_last (state_after_call image state d) cs c) (omega arith)

-- ---- the first k records of a trace, each marked as a period record

-- the first k steps are accepted, and leave what the first k periods leave
pub record Accepts (image state trace reply : List ℕ) (k : ℕ) : Type 0 where
  pub all : accepted_count image state (calls_of trace reply k) ≡ k
  pub leaves : state_after image state (calls_of trace reply k) ≡ state_bytes (after_periods (image_of image) (state_of state) (trace_periods trace k))

module _ (image state trace reply : List ℕ) (n : ℕ) (h : Ready image state n) (b : AllBytes state) (r : step_reply_bytes ≤ length reply) where
  -- the step after k periods is accepted with a marked record
  next_accepted : (k : ℕ) → suc k ≤ n → k < period_records trace → marked_at (form_of trace) trace k ≡ true
      → accepted image (state_bytes (after_periods (image_of image) (state_of state) (trace_periods trace k))) (record { period = record_at (form_of trace) trace k; reply = reply }) ≡ true
  next_accepted k i f m =
      let w = trace_periods trace k in
      let e : length w ≡ k = length-periods_of (form_of trace) trace k in
      let l = state_bytes (after_periods (image_of image) (state_of state) w) in
      step-accepts image l (ready_less image l 1 (n - length w) (omega arith) (later_ready image state n h w (omega arith)))
      (record { period = record_at (form_of trace) trace k; reply = reply }) r (period_test_lem (form_of trace) trace k f m)

  pub accepts : (k : ℕ) → k ≤ n → k ≤ period_records trace → ((i : ℕ) → i < k → marked_at (form_of trace) trace i ≡ true) → Accepts image state trace reply k
  unfolding calls_of periods_of after_periods accepted_count state_after
  accepts zero i j m = record { all = refl; leaves = sym (state_bytes-state_of state b (omega (arith, ready_long image state n h))) }
  accepts (suc k) i j m =
      let w = trace_periods trace k in
      let e : length w ≡ k = length-periods_of (form_of trace) trace k in
      let l = state_bytes (after_periods (image_of image) (state_of state) w) in
      let c : StepCall = record { period = record_at (form_of trace) trace k; reply = reply } in
      let before = accepts k (omega arith) (omega arith) (λ x y. m x (omega arith)) in
      let f : k < period_records trace = omega arith in
      let next = next_accepted k i f (m k (omega arith)) in
      record {
        all = count_last image state (calls_of trace reply k) c ∙ rw (before.all, before.leaves, next) (add-one k);
        leaves = after_last image state (calls_of trace reply k) c
            ∙ rw (before.leaves, taken_step image l c next, later_read image state n h w (omega arith), record_period (form_of trace) trace k f (m k (omega arith)))
            (ap state_bytes (sym (after_snoc (image_of image) (state_of state) w (period_at (form_of trace) trace k))));
      }

  -- the next step's reply
  pub next_reply : (k : ℕ) → suc k ≤ n → k < period_records trace → ((i : ℕ) → i < suc k → marked_at (form_of trace) trace i ≡ true)
      → (step image (state_after image state (calls_of trace reply k)) (record_at (form_of trace) trace k) reply).reply
      ≡ sets reply 0 (reply_of Passed (answer (after_periods (image_of image) (state_of state) (trace_periods trace (suc k)))))
  unfolding periods_of
  next_reply k i j m =
      let w = trace_periods trace k in
      let e : length w ≡ k = length-periods_of (form_of trace) trace k in
      let l = state_bytes (after_periods (image_of image) (state_of state) w) in
      let c : StepCall = record { period = record_at (form_of trace) trace k; reply = reply } in
      let before = accepts k (omega arith) (omega arith) (λ x y. m x (omega arith)) in
      let f : k < period_records trace = omega arith in
      rw (before.leaves, after_snoc (image_of image) (state_of state) w (period_at (form_of trace) trace k), ← record_period (form_of trace) trace k f (m k (omega arith)))
      (rw (later_read image state n h w (omega arith)) at
      (ap (λ (x : After (List ℕ)). x.reply) (accepted-step image l c (next_accepted k i f (m k (omega arith))))))

-- ---- a run

module _ (image state trace reply : List ℕ) (b : AllBytes state) (r : step_reply_bytes ≤ length reply) where
  run-written : run_test image state trace ≡ Passed
      → let later = after_periods (image_of image) (state_of state) (trace_periods trace (period_records trace)) in
      run image state trace reply ≡ written (state_bytes later) reply Passed (answer later)
  unfolding run
  run-written t = call-passed (run_test image state trace) _ _ _ reply r t

  -- an accepted run ends as the steps of its records do
  pub run_ends : run_test image state trace ≡ Passed → EndsAsSteps image state trace reply
  unfolding periods_of after_periods
  run_ends t =
      let n = period_records trace in
      let h = run_ready image state trace t in
      let left = run-written t in
      let each = accepts image state trace reply n h b r n (omega arith) (omega arith) (run_marks image state trace t) in
      record {
        all = each.all;
        same_state = ap (λ (x : After (List ℕ)). x.buffers) left ∙ sym each.leaves;
        own_answer = λ e. ap (λ (x : After (List ℕ)). x.reply) left ∙ rw e;
        last_reply = λ k e. ap (λ (x : After (List ℕ)). x.reply) left ∙ rw e (sym (next_reply image state trace reply n h b r k (omega arith) (omega arith) (λ i j. run_marks image state trace t i (omega arith))));
      }

-- ---- a refused run

-- it leaves the state as it was
pub run_keeps : (image state trace reply : List ℕ) → ¬ (run_test image state trace ≡ Passed) → (run image state trace reply).buffers ≡ state
unfolding run
run_keeps image state trace reply h =
    let t = run_test image state trace in
    ⊎_elim (λ n. ap (λ (x : After (List ℕ)). x.buffers) (call_no_room t _ state _ reply n))
    (λ n. ap (λ (x : After (List ℕ)). x.buffers) (call_refused t _ state _ reply n h))
    (lt_or_le (length reply) step_reply_bytes)

small_periods : (state : List ℕ) → AllBytes state → (state_of state).periods ≤ max_periods
unfolding state_of
small_periods state b = let h = field_lt state 2 4 b in omega arith

-- by the image or the state: as every step is
pub refused_ready : (image state trace period : List ℕ) → ¬ (ready_test image state ≡ Passed)
    → run_test image state trace ≡ step_test image state period
unfolding run_test step_test
refused_ready image state trace period h =
    first_refused (ready_test image state) _ h ∙ sym (first_refused (ready_test image state) _ h)

-- by what is tested before the later marks: at 0
pub refused_start : (image state trace : List ℕ) → ready_test image state ≡ Passed → ¬ (start_test trace ≡ Passed)
    → run_test image state trace ≡ Refused BadPeriod 0
unfolding run_test trace_test
refused_start image state trace h e = rw (h, start_refused trace e)

module _ (image state trace : List ℕ) (h : ready_test image state ≡ Passed) (e : length trace % period_bytes (form_of trace) ≡ 0) where
  sound_ready : (n : ℕ) → (state_of state).periods + n ≤ max_periods → Ready image state n
  sound_ready n l = let p = ready_passed image state h in record { good = p.0; sound = p.1; room = omega arith }

  -- by a record's mark: at the first record of another mark, which its step refuses if the count lets the steps before it pass
  module _ (k : ℕ) (i : k < period_records trace) (m : (j : ℕ) → j < k → marked_at (form_of trace) trace j ≡ true) (bad : marked_at (form_of trace) trace k ≡ false) where
    pub refused_mark : run_test image state trace ≡ Refused BadPeriod k
    unfolding run_test
    refused_mark = rw (h, trace_refused trace k e i m bad)

    pub refused_mark_step : (reply : List ℕ) → AllBytes state → step_reply_bytes ≤ length reply → (state_of state).periods + k ≤ max_periods
        → RefusedAt image state trace reply k (Refused BadPeriod 0)
    refused_mark_step reply b r l =
        let ready = sound_ready k l in
        let w = trace_periods trace k in
        let q : length w ≡ k = length-periods_of (form_of trace) trace k in
        let a = accepts image state trace reply k ready b r k (omega arith) (omega arith) m in
        record {
          before = a.all;
          refuses = rw a.leaves (step_refuses image (state_bytes (after_periods (image_of image) (state_of state) w))
              (later_ready image state k ready w (omega arith)) (record_at (form_of trace) trace k) (period_refused (form_of trace) trace k (omega arith) bad));
        }

  -- by the count: at the first record too many, which its step refuses
  module _ (m : (j : ℕ) → j < period_records trace → marked_at (form_of trace) trace j ≡ true) (l : max_periods < (state_of state).periods + period_records trace) where
    pub refused_count : run_test image state trace ≡ Refused FullCount (max_periods - (state_of state).periods)
    unfolding run_test count_test
    refused_count = rw (h, trace_passes trace e m, lt-leb ((state_of state).periods + period_records trace) max_periods l)

    pub refused_count_step : (reply : List ℕ) → AllBytes state → step_reply_bytes ≤ length reply
        → RefusedAt image state trace reply (max_periods - (state_of state).periods) (Refused FullCount 0)
    refused_count_step reply b r =
        let small = small_periods state b in
        let k = max_periods - (state_of state).periods in
        let ready = sound_ready k (omega arith) in
        let w = trace_periods trace k in
        let q : length w ≡ k = length-periods_of (form_of trace) trace k in
        let a = accepts image state trace reply k ready b r k (omega arith) (omega arith) (λ j i. m j (omega arith)) in
        let last = state_bytes (after_periods (image_of image) (state_of state) w) in
        record {
          before = a.all;
          refuses = rw a.leaves (step_full image last
              (ready_less image last 0 (k - length w) (omega arith) (later_ready image state k ready w (omega arith)))
              (rw (later_read image state k ready w (omega arith), periods_after_periods (image_of image) (state_of state) w, q) (omega arith))
              (record_at (form_of trace) trace k) (period_test_lem (form_of trace) trace k (omega arith) (m k (omega arith))));
        }
