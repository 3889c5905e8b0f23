-- Demand 3: an image that is right for a contract's clause monitors the contract, so the image of every contract that is taken does.
use Prim.Native.Nat.{ℕ, ◌+◌, ◌-◌, ◌≤◌, ◌<◌}
use native.Mathlib.Nat.{zero-add}
use native.Mathlib.Omega.{arith}
use mathlib.Core.Bool.{true, false, cond}
use mathlib.Core.List.{List, [], ◌∷◌, ◌++◌}
use mathlib.Core.Logic.{◌⊎◌, inl, inr, ⊎_elim}
use mathlib.Core.Path.{◌≡◌, refl, sym, ap, ◌∙◌}
use borrow.Author.Tests.{le-leb, lt-leb, lt-ltb, le-ltb, ltb-true, eqb-false}
use lib.Dec.{ltb, eqb}
use lib.ListN.{length, length-append}
use Rattle.records.specs.declared.Fault.TheVariants.{FullCount}
use Rattle.records.specs.Refusals.{Passed, require}
use Rattle.records.proofs.Cases.{lt_or_le, true_or_false}
use Rattle.records.proofs.Refusals.{first_passed, require-passed, passed-not}
use Rattle.records.specs.Replies.{unwritten, written, call, head_size}
use Rattle.records.proofs.Replies.{call_no_room, call_refused}
use Rattle.periods.specs.Periods.{Period}
use Rattle.periods.specs.Traces.{form_of, period_records, trace_periods, period_in, period_test}
use Rattle.periods.proofs.Traces.{periods_split}
use Rattle.layout.specs.Images.{row_count, image_of}
use Rattle.states.specs.Limits.{head_bytes, max_periods}
use Rattle.states.specs.States.{State, state_of, state_bytes, fresh_bytes}
use Rattle.states.specs.Refusals.{count_test}
use Rattle.states.proofs.Fresh.{fresh_read}
use Rattle.states.specs.Verdicts as Shown
use Rattle.machine.specs.Machine.{after_period, after_periods}
use Rattle.machine.proofs.Machine.{after_snoc, periods_after_periods}
use Rattle.calls.specs.Reading.{state_after_records, records_read}
use Rattle.calls.specs.Refusals.{ready_test, step_test, unread_test, decide_test}
use Rattle.calls.specs.Calls.{step_reply_bytes, step_answer, answer, begin, step, decide}
use Rattle.calls.specs.StepCalls as StepCalls
use Rattle.calls.specs.StepCalls.{StepCall, state_after_call, state_after}
use Rattle.calls.proofs.Refusals.{begin_passes}
use Rattle.calls.proofs.Reading.{undecided_after, few_read, read_is}
use Rattle.calls.proofs.StepCalls.{accepted-passed, accepted-step, refused_step, taken_read, stays_sound, begin-written, begin-sound}
use Rattle.contract.specs.Meaning.{Clause, Decision, undecided, satisfied, violated, meaning, EmptyFree}
use Rattle.contract.specs.Verdicts.{verdict}
use Rattle.contract.proofs.Verdicts.{decides_once, stands}
use Rattle.grammar.specs.Spelling.{Spells}
use Rattle.grammar.specs.Reader.{taken, read}
use Rattle.grammar.proofs.Reader.{taken_spells}
use Rattle.image.specs.Images.{image_for}
use Rattle.image.specs.Rightness.{Shows, RightFor}
use Rattle.image.specs.Monitors.{call_test, accepts, periods_after, meant_answer, AnswersCall, AnswersCalls, records_for, meant_records, trace_test_for, meant_trace_answer, Monitors}
use Rattle.image.proofs.Images.{right_for}

-- ---- a state that shows a decision answers with it

verdict_shown : (d : Decision) (s : State) → Shows d s → Shown.verdict s ≡ verdict d s.periods
verdict_shown undecided s h = rw h.outcome_is
verdict_shown (satisfied k) s h = rw (h.outcome_is, h.decision_is)
verdict_shown (violated k b) s h = rw (h.outcome_is, h.decision_is)

answer_meant : (c : Clause) (w : List Period) (s : State) → Shows (meaning c w) s → s.periods ≡ length w → answer s ≡ meant_answer c w
unfolding meant_answer
answer_meant c w s h e = rw (verdict_shown (meaning c w) s h, h.blame_is, h.decision_is, e)

-- and tells how many records it takes
records_shown : (d : Decision) (s : State) (n : ℕ) → Shows d s → records_for d n ≡ cond (eqb s.outcome 0) n s.decision
records_shown undecided s n h = rw h.outcome_is
records_shown (satisfied k) s n h = rw (h.outcome_is, h.decision_is)
records_shown (violated k b) s n h = rw (h.outcome_is, h.decision_is)

-- ---- the tests of a step on a state of n periods

count_test_lem : (n : ℕ) → n ≤ max_periods → count_test n 1 ≡ require (ltb n max_periods) FullCount 0
unfolding count_test
count_test_lem n h =
    ⊎_elim
    (λ (l : n < max_periods). rw (lt-ltb n max_periods l, le-leb (n + 1) max_periods (omega arith)))
    (λ (l : max_periods ≤ n). let i : max_periods - n ≡ 0 = omega arith in rw (le-ltb n max_periods l, lt-leb (n + 1) max_periods (omega arith), i))
    (lt_or_le n max_periods)

-- ---- step calls on the states that the machine reaches

module _ (c : Clause) (image : List ℕ) (right : RightFor c image) where
  -- the machine's states: the first, and the one after the periods w
  abbrev fresh : State
  fresh = state_of (fresh_bytes (row_count image))

  abbrev reached : List Period → State
  reached w = after_periods (image_of image) fresh w

  -- the bytes of a state are ready for a call, and hold that state, with few enough periods to be counted
  record At (w : List Period) (state : List ℕ) : Type 0 where
    ready : ready_test image state ≡ Passed
    is : state_of state ≡ reached w
    few : length w ≤ max_periods

  periods_at : (w : List Period) → (reached w).periods ≡ length w
  periods_at w =
      periods_after_periods (image_of image) fresh w ∙ rw (fresh_read (row_count image)) (zero-add (length w))

  module _ (w : List Period) (state : List ℕ) (h : At w state) (k : StepCall) where
    counted : (state_of state).periods ≡ length w
    counted = rw h.is (periods_at w)

    test_at : step_test image state k.period ≡ call_test (length w) k.period
    unfolding step_test call_test
    test_at = rw (h.ready, counted, count_test_lem (length w) h.few)

    -- the runner accepts a call where document 01 does
    accepts_at : StepCalls.accepted image state k ≡ accepts (length w) k
    unfolding StepCalls.accepted accepts
    accepts_at = rw test_at

    -- the state and the answer after the call's own period
    abbrev next : List Period
    next = w ++ (period_in k.period ∷ [])

    later_at : after_period (image_of image) (period_in k.period) (state_of state) ≡ reached next
    later_at = rw h.is (sym (after_snoc (image_of image) fresh w (period_in k.period)))

    room_to_count : accepts (length w) k ≡ true → length w < max_periods
    unfolding call_test
    room_to_count e =
        let t = sym test_at ∙ accepted-passed image state k (accepts_at ∙ e) in
        let b = first_passed (period_test k.period) (require (ltb (length w) max_periods) FullCount 0) t in
        ltb-true (length w) max_periods (require-passed (ltb (length w) max_periods) FullCount 0 b.1)

    no_room_at : length k.reply < step_reply_bytes → step image state k.period k.reply ≡ unwritten state k.reply
    unfolding step
    no_room_at l = call_no_room (step_test image state k.period) _ state _ k.reply l

    refused_at : step_reply_bytes ≤ length k.reply → accepts (length w) k ≡ false
        → step image state k.period k.reply ≡ written state k.reply (call_test (length w) k.period) (step_answer 0 0 0)
    unfolding step accepts
    refused_at l e =
        let t = call_test (length w) k.period in
        let no = passed-not t (rw (le-leb step_reply_bytes (length k.reply) l) at e) in
        call_refused (step_test image state k.period) _ state _ k.reply l (λ p. no (sym test_at ∙ p)) ∙ rw test_at

    accepted_at_lem : accepts (length w) k ≡ true
        → step image state k.period k.reply ≡ written (state_bytes (reached next)) k.reply Passed (meant_answer c next)
    accepted_at_lem e =
        accepted-step image state k (accepts_at ∙ e)
        ∙ rw later_at (ap (written (state_bytes (reached next)) k.reply Passed) (answer_meant c next (reached next) (right.shows next) (periods_at next)))

    answers_call : AnswersCall c image state w k
    unfolding periods_after
    answers_call = record { no_room = no_room_at; refused = refused_at; accepted = λ e. rw (accepted_at_lem e, e) (refl, refl) }

    -- what the call leaves
    next_at : At (periods_after w k) (state_after_call image state k)
    unfolding periods_after state_after
    next_at = go (true_or_false (accepts (length w) k))
      where
        go : (accepts (length w) k ≡ true) ⊎ (accepts (length w) k ≡ false) → At (periods_after w k) (state_after_call image state k)
        go (inl e) =
            rw e record {
              ready = stays_sound image state (k ∷ []) h.ready;
              is = taken_read image state k (accepts_at ∙ e) ∙ later_at;
              few = rw length-append (omega (arith, room_to_count e));
            }
        go (inr e) = rw (e, refused_step image state k (accepts_at ∙ e)) h

  answers_calls : (ks : List StepCall) (w : List Period) (state : List ℕ) → At w state → AnswersCalls c image state w ks
  unfolding AnswersCalls
  answers_calls [] w state h = rw h.is (periods_at w)
  answers_calls (k ∷ ks) w state h =
      (counted w state h k, answers_call w state h k, answers_calls ks (periods_after w k) (state_after_call image state k) (next_at w state h k))

  -- begin leaves the machine's first state
  begun_at : (state reply : List ℕ) → length state ≡ head_bytes + row_count image → head_size ≤ length reply
      → At [] (begin image state reply).buffers
  unfolding after_periods
  begun_at state reply l r =
      let b = begin-written image state reply r (begin_passes image state right.good l) in
      record { ready = begin-sound image state reply r (begin_passes image state right.good l); is = rw (b, l); few = omega arith }

  -- ---- decide

  -- the states that it reads through are the machine's
  module _ (trace : List ℕ) where
    abbrev last : ℕ
    last = records_read image trace

    abbrev all : List Period
    all = trace_periods trace (period_records trace)

    shows_read : (k : ℕ) → Shows (meaning c (trace_periods trace k)) (state_after_records image trace k)
    unfolding state_after_records
    shows_read k = right.shows (trace_periods trace k)

    -- undecided, all is read; and a decision stands
    read_alone : EmptyFree c → meaning c (trace_periods trace last) ≡ meaning c all
    read_alone g =
        let v = periods_split (form_of trace) trace last (period_records trace) (few_read image trace) in
        ⊎_elim
        (λ o. let e : last ≡ period_records trace = read_is image trace ∙ rw o in rw e)
        (λ f. let decided : ¬ (meaning c (trace_periods trace last) ≡ undecided) =
        λ e. eqb-false (state_after_records image trace last).outcome 0 f (rw e at (shows_read last).outcome_is) in
        rw v.1 (sym (stands c g (trace_periods trace last) v.0 decided)))
        (true_or_false (undecided_after image trace last))

    records_meant : EmptyFree c → meant_records c trace ≡ last
    records_meant g =
        records_shown (meaning c all) (state_after_records image trace last) (period_records trace) (rw (read_alone g) at (shows_read last)) ∙ sym (read_is image trace)

    answers_trace : EmptyFree c → (reply : List ℕ) → decide image trace reply ≡ call (trace_test_for c trace) (meant_trace_answer c trace) tt tt reply
    unfolding decide decide_test unread_test trace_test_for meant_trace_answer
    answers_trace g reply =
        let h = rw (read_alone g) at (shows_read last) in
        rw (right.good, records_meant g, h.outcome_is, h.blame_is, h.decision_is)

  pub right_monitors : (contract : List ℕ) → Spells contract c → Monitors contract image
  right_monitors contract s =
      record {
        clause = c;
        spells = s;
        decides = decides_once c s.empty_free;
        answers = λ state reply l r.
            (begin-written image state reply r (begin_passes image state right.good l), λ ks. answers_calls ks [] (begin image state reply).buffers (begun_at state reply l r));
        answers_trace = λ trace reply. answers_trace trace s.empty_free reply;
      }

-- ---- the theorem

-- every contract that is taken is monitored by its image
pub monitors : (contract : List ℕ) (c : Clause) → read contract ≡ taken c → Monitors contract (image_for contract)
monitors contract c e = right_monitors c (image_for contract) (right_for contract c e) contract (taken_spells contract c e)
