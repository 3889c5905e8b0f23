-- Demand 3 from compile's contract alone.
use Rattle.std.specs.Prelude.{Ok, Err}
use Prim.Native.Nat.{ℕ, ◌+◌, ◌≤◌, ◌<◌}
use native.Mathlib.Omega.{arith}
use mathlib.Core.Bool.{Bool, true, false, ◌&&◌, cond, and-false}
use mathlib.Core.List.{List, [], ◌∷◌, ◌++◌, append-nil}
use mathlib.Core.Logic.{◌⊎◌, inl, inr}
use mathlib.Core.Path.{◌≡◌, refl, ap, ◌∙◌, subst}
use borrow.Author.Tests.{lt-ltb, le-ltb, lt-leb, le-leb}
use lib.Dec.{eqb, ltb}
use lib.ListN.{length, take, replicate, length-replicate}
use lib.Seq.{sets}
use Rattle.records.specs.Fields.{bytes}
use Rattle.records.specs.declared.Fault.{Fault}
use Rattle.records.specs.declared.Fault.TheVariants.{BadPeriod, FullCount}
use Rattle.records.specs.Refusals.{Test, Passed, Refused, fault_number, number_of, place_of, require, first_of, passed}
use Rattle.records.specs.declared.Head.{Head}
use Rattle.records.specs.Replies.{fields_bytes, reply_of, unwritten, call}
use Rattle.records.specs.Verdicts.{verdict_number}
use Rattle.records.proofs.Refusals.{is_refused, passed_is, passed-not}
use Rattle.records.proofs.Replies.{call_no_room, call-passed, call_refused, call_result}
use Rattle.periods.specs.declared.Party.TheVariants.{One as party1, Two as party2}
use Rattle.periods.specs.Periods.{Period}
use Rattle.periods.specs.Traces.{marks_test, form_of, period_records, start_test, period_in, period_test}
use Rattle.periods.proofs.Traces.{start_refused, step_refused, marks_pass, marks_refused}
use Rattle.states.specs.Limits.{max_periods}
use Rattle.states.specs.States.{state_of}
use Rattle.states.specs.Refusals.{count_test}
use Rattle.calls.specs.Calls.{step_answer, decide_answer, begin, step, decide}
use Rattle.calls.specs.StepCalls.{StepCall, state_after_call, state_after}
use Rattle.contract.specs.Meaning.{Parties, only, both_parties, parties_number, Clause, Decision, undecided, satisfied, violated, meaning}
use Rattle.contract.specs.Verdicts.{outcome, decision_period, blame, verdict, DecidesOnce}
use Rattle.grammar.proofs.Reader.{spells_once}
use Rattle.image.specs.Monitors.{call_test, accepts, periods_after, meant_answer, AnswersCall, AnswersCalls, records_for, meant_records, trace_test_for, meant_trace_answer}
use Rattle.compiler.specs.Calls.{compile, Usable, Compiles}
use Rattle.claim.specs.Claim.{Tells, DecidedAt, Course, at_none, met_at, broken_at, accepted_after, periods_so_far, step_bytes, Answers, decide_bytes, meant, read_of, Decides, image_in, Monitored, Demand3}

-- ---- at one period or at none

-- what is told after n periods, by the list's one decision and by what is decided so far
tells : (c : Clause) (w : List Period) (n : ℕ) (d now : Decision) (number : ℕ) → verdict (meaning c (take n w)) n ≡ verdict d n
    → verdict_number (verdict d n) ≡ number → meaning c (take n w) ≡ now → Tells c w n number (blame now) (decision_period now)
tells c w n d now number e h i = record { verdict_is = ap verdict_number e ∙ h; blame_is = rw i; period_is = rw i }

blame_bounds : (b : Parties) → (1 ≤ parties_number b) × (parties_number b ≤ 3)
blame_bounds (only party1) = (omega arith, omega arith)
blame_bounds (only party2) = (omega arith, omega arith)
blame_bounds both_parties = (omega arith, omega arith)

module _ (c : Clause) (w : List Period) where
  -- the list's decision, as `DecidesOnce` has it: what is open before, what stands from then on, and the verdicts
  record Decided (d : Decision) : Type 0 where
    open_before : (n : ℕ) → n < decision_period d → meaning c (take n w) ≡ undecided
    same_from : (n : ℕ) → decision_period d ≤ n → meaning c (take n w) ≡ d
    verdicts : (n : ℕ) → n ≤ length w → verdict (meaning c (take n w)) n ≡ verdict d n

  -- decided at period k, whose verdict is one in that period and another later
  at_one : (d : Decision) (now later : ℕ) → Decided d → (1 ≤ decision_period d) × (decision_period d ≤ length w)
      → ((n : ℕ) → n < decision_period d → verdict_number (verdict d n) ≡ 0) → verdict_number (verdict d (decision_period d)) ≡ now
      → ((n : ℕ) → decision_period d < n → verdict_number (verdict d n) ≡ later) → DecidedAt c w (decision_period d) now later (blame d)
  at_one d now later h b before at after =
      let k = decision_period d in
      record {
        from_1 = b.0;
        within = b.1;
        before = λ n l. tells c w n d undecided 0 (h.verdicts n (omega (arith, b.1))) (before n l) (h.open_before n l);
        at = tells c w k d d now (h.verdicts k b.1) at (h.same_from k (omega arith));
        after = λ n l m. tells c w n d d later (h.verdicts n m) (after n l) (h.same_from n (omega arith));
      }

  course : DecidesOnce c w → Course c w
  course o = go o.decision o.bounds (record { open_before = o.open_before; same_from = o.same_from; verdicts = o.verdicts })
    where
      go : (d : Decision) → (d ≡ undecided) ⊎ ((1 ≤ decision_period d) × (decision_period d ≤ length w)) → Decided d → Course c w
      go undecided b h = at_none (λ n l. tells c w n undecided undecided 0 (h.verdicts n l) refl (h.same_from n (omega arith)))
      go (satisfied k) (inl e) h = absurd (omega (arith, ap outcome e))
      go (satisfied k) (inr b) h =
          met_at k
          (at_one (satisfied k) 1 3 h b (λ n l. rw (lt-ltb n k l)) (rw (le-ltb k k (omega arith))) (λ n l. rw (le-ltb n k (omega arith), lt-ltb k n l)))
      go (violated k p) (inl e) h = absurd (omega (arith, ap outcome e))
      go (violated k p) (inr b) h =
          broken_at k (parties_number p) (blame_bounds p).0 (blame_bounds p).1
          (at_one (violated k p) 2 4 h b (λ n l. rw (lt-ltb n k l)) (rw (le-ltb k k (omega arith))) (λ n l. rw (le-ltb n k (omega arith), lt-ltb k n l)))

-- ---- which steps are accepted

passed_first : (t u : Test) → passed (first_of t u) ≡ (passed t && passed u)
passed_first (Ok _) u = refl
passed_first (Err r) u = refl

passed-require : (b : Bool) (f : Fault) (k : ℕ) → passed (require b f k) ≡ b
passed-require true f k = refl
passed-require false f k = refl

accepts_is : (n : ℕ) (call : StepCall) → accepts n call ≡ accepted_after n call
unfolding accepts call_test
accepts_is n call =
    rw (passed_first (period_test call.period) (require (ltb n max_periods) FullCount 0), passed-require (ltb n max_periods) FullCount 0)

-- ---- what a step leaves

step-bytes : (t : Test) (v b d : ℕ) → reply_of t (step_answer v b d) ≡ step_bytes (number_of t) v (place_of t) b d
unfolding fields_bytes
step-bytes t v b d = rw (append-nil (bytes 4 d))

module _ (c : Clause) (image state : List ℕ) (w : List Period) (call : StepCall) (a : AnswersCall c image state w call) where
  bad : 24 ≤ length call.reply → passed (period_test call.period) ≡ false
      → step image state call.period call.reply ≡ record { result = 1; buffers = state; reply = sets call.reply 0 (step_bytes 11 0 0 0 0) }
  unfolding call_test
  bad h e =
      let no : accepts (length w) call ≡ false = accepts_is (length w) call ∙ rw (e, and-false) in
      a.refused h no ∙ rw (step_refused call.period (passed-not (period_test call.period) e), step-bytes (Refused BadPeriod 0) 0 0 0)

  full : 24 ≤ length call.reply → passed (period_test call.period) ≡ true → 4294967295 ≤ length w
      → step image state call.period call.reply ≡ record { result = 1; buffers = state; reply = sets call.reply 0 (step_bytes 12 0 0 0 0) }
  unfolding call_test
  full h e l =
      let f : ltb (length w) 4294967295 ≡ false = le-ltb (length w) 4294967295 l in
      let no : accepts (length w) call ≡ false = accepts_is (length w) call ∙ rw (e, f, and-false) in
      a.refused h no ∙ rw (passed_is (period_test call.period) e, f, step-bytes (Refused FullCount 0) 0 0 0)

  answers : (state_of state).periods ≡ length w → Answers c image state w call
  unfolding state_of periods_after meant_answer
  answers e =
      record {
        counted = e;
        no_room = a.no_room;
        bad_record = bad;
        full_count = full;
        accepted = λ h. let i = accepts_is (length w) call ∙ h in let g = a.accepted i in (g.0, rw i at g.1 ∙ rw step-bytes);
      }

-- the periods so far are the same
so_far : (w : List Period) (call : StepCall) → periods_after w call ≡ cond (accepted_after (length w) call) (w ++ (period_in call.period ∷ [])) w
unfolding periods_after
so_far w call = rw (accepts_is (length w) call)

-- each step behind a list of them
behind : (c : Clause) (image : List ℕ) (calls : List StepCall) (call : StepCall) (state : List ℕ) (w : List Period)
    → AnswersCalls c image state w (calls ++ (call ∷ [])) → Answers c image (state_after image state calls) (periods_so_far w calls) call
unfolding AnswersCalls state_after periods_so_far
behind c image [] call state w h = answers c image state w call h.1 h.0
behind c image (k ∷ ks) call state w h = behind c image ks call (state_after_call image state k) _ (rw (so_far w k) at h.2)

-- ---- what decide leaves

decide-bytes : (t : Test) (o b d n : ℕ) → reply_of t (decide_answer o b d n) ≡ decide_bytes (number_of t) o (place_of t) b d n
unfolding fields_bytes
decide-bytes t o b d n = rw (append-nil (bytes 4 0))

records_read_lem : (d : Decision) (n : ℕ) → records_for d n ≡ cond (eqb (outcome d) 0) n (decision_period d)
records_read_lem undecided n = refl
records_read_lem (satisfied k) n = refl
records_read_lem (violated k b) n = refl

module _ (c : Clause) (image trace area : List ℕ) (e : decide image trace area ≡ call (trace_test_for c trace) (meant_trace_answer c trace) tt tt area) where
  read_is : meant_records c trace ≡ read_of c trace
  read_is = records_read_lem (meant c trace) (period_records trace)

  refused_by : 32 ≤ length area → (f : Fault) (k : ℕ) → trace_test_for c trace ≡ Refused f k
      → decide image trace area ≡ record { result = 1; buffers = tt; reply = sets area 0 (decide_bytes (fault_number f) 0 k 0 0 0) }
  unfolding meant_trace_answer
  refused_by h f k t =
      e ∙ call_refused (trace_test_for c trace) _ (tt {0}) (tt {0}) area h (is_refused t) ∙ rw (t, decide-bytes (Refused f k) 0 0 0 0)

  started : start_test trace ≡ Passed → period_records trace ≤ 4294967295
      → trace_test_for c trace ≡ marks_test (form_of trace) trace (read_of c trace)
  unfolding trace_test_for count_test
  started s few = rw (s, le-leb (0 + period_records trace) max_periods (omega arith), read_is)

  decides_by : Decides c image trace area
  unfolding trace_test_for count_test meant_trace_answer
  decides_by =
      record {
        no_room = λ h. e ∙ call_no_room (trace_test_for c trace) _ (tt {0}) (tt {0}) area h;
        bad_start = λ h s. refused_by h BadPeriod 0 (rw (start_refused trace s));
        too_many = λ h s many. refused_by h FullCount 4294967295 (rw (s, lt-leb (0 + period_records trace) max_periods (omega arith)));
        bad_mark = λ h s few k l before bad.
            refused_by h BadPeriod k (started s few ∙ marks_refused (form_of trace) trace (read_of c trace) k l before bad);
        accepted = λ h s few good.
            e ∙ call-passed (trace_test_for c trace) _ (tt {0}) (tt {0}) area h (started s few ∙ marks_pass (form_of trace) trace (read_of c trace) good)
            ∙ rw (decide-bytes, read_is);
      }

-- ---- what compile leaves

module _ (contract buffer reply : List ℕ) (u : Usable contract buffer reply) where
  abbrev image : List ℕ
  image = image_in buffer u.count

  abbrev zeros : List ℕ
  zeros = replicate (10 + u.count) 0

  begun : (state area : List ℕ) → length state ≡ 10 + u.count → 16 ≤ length area
      → begin image state area ≡ record { result = 1; buffers = zeros; reply = sets area 0 (replicate 16 0) }
  unfolding fields_bytes bytes
  begun state area l r = (u.monitors.answers state area (rw u.rows l) r).0 ∙ rw l

  -- every list of steps from these zeros
  answered : (calls : List StepCall) → AnswersCalls u.monitors.clause image zeros [] calls
  answered calls =
      let long : length zeros ≡ 10 + u.count = length-replicate (10 + u.count) 0 in
      let area : List ℕ = replicate 16 0 in
      let room : 16 ≤ length area = omega arith in
      rw (begun zeros area long room) at ((u.monitors.answers zeros area (rw u.rows long) room).1 calls)

  own : Monitored contract u.monitors.clause buffer reply
  own =
      record {
        rows = u.count;
        number_is = ap (λ (h : Head). h.number) u.head_is;
        rows_are = ap (λ (h : Head). h.own) u.head_is;
        place_is = ap (λ (h : Head). h.place) u.head_is;
        few_rows = u.few;
        good_image_lem = u.good;
        begins = begun;
        steps = λ calls call. behind u.monitors.clause image calls call zeros [] (answered (calls ++ (call ∷ [])));
        open_at_first = (u.monitors.decides []).nothing_yet;
        once = λ w. course u.monitors.clause w (u.monitors.decides w);
        decides = λ trace area. decides_by u.monitors.clause image trace area (u.monitors.answers_trace trace area);
      }

module _ (contract buffer area : List ℕ) (result : ℕ) (later-buffer later-area : List ℕ) (k : Compiles contract buffer area result later-buffer later-area) where
  nothing : length area < 16 → compile contract buffer area ≡ unwritten buffer area
  unfolding compile
  nothing h = call_no_room _ _ _ _ _ h

  replied : 16 ≤ length area → (compile contract buffer area).result ≡ 1
  unfolding compile
  replied h = call_result _ _ _ _ _ h

  pub claim : Demand3 contract buffer area result later-buffer later-area
  claim =
      record {
        no_room = λ h. rw (k.gives.result_is, k.gives.buffers_are, k.gives.reply_is, nothing h) (refl, refl, refl);
        taken = k.takes;
        one_contract = λ c d s t. spells_once s t;
        monitored = λ c s h b.
            let u = k.usable c s h (omega (arith, b)) in
            (k.gives.result_is ∙ replied h, subst (λ (d : Clause). Monitored contract d later-buffer later-area) (spells_once u.monitors.spells s) (own contract later-buffer later-area u));
      }
