-- What it means for an image to monitor a contract: demand 3, one claim about every list of step calls. Document 01, "Calls", from "The list
-- in demand 3"; and that decide tells what the contract means on a trace. Document 02, "Stop reading once it is decided" and "Thirty-two
-- actions". The calls are `begin`, `step`
-- and `decide` as these calls' own contracts have them. What document 01 says there of compile is for compile's own contract.
use Rattle.std.specs.Prelude.{ℕ, ◌+◌, ◌≤◌, ◌<◌, Bool, true, false, cond, List, [], ◌∷◌, ◌++◌, ◌≡◌, ltb, length, replicate}
use Rattle.std.proofs.lemmas.List.Edits.{sets}
use Rattle.records.specs.Verdicts.{verdict_number}
use Rattle.records.specs.declared.Fault.TheVariants.{FullCount}
use Rattle.records.specs.Refusals.{Test, Passed, first_of, require}
use Rattle.records.specs.Replies.{Answer, alone, reply_of, unwritten, written, call, head_size}
use Rattle.periods.specs.Periods.{Period}
use Rattle.periods.specs.Traces.{marks_test, form_of, period_records, trace_periods, start_test, period_in, period_test}
use Rattle.layout.specs.Images.{row_count}
use Rattle.states.specs.Limits.{head_bytes, max_periods}
use Rattle.states.specs.States.{state_of}
use Rattle.states.specs.Refusals.{count_test}
use Rattle.calls.specs.Calls.{step_answer, step_reply_bytes, decide_answer, begin, step, decide}
use Rattle.calls.specs.StepCalls.{StepCall, accepted_by, state_after_call}
use Rattle.contract.specs.Meaning.{Clause, Decision, undecided, satisfied, violated, meaning}
use Rattle.contract.specs.Verdicts.{outcome, decision_period, blame, verdict, DecidesOnce}
use Rattle.grammar.specs.Spelling.{Spells}

-- "refused exactly when its own record meets 11 or, that record being good, 4,294,967,295 steps before it were accepted (12)", n being the
-- number of those accepted before it
unfoldable pub call_test : (n : ℕ) (period : List ℕ) → Test
call_test n period = first_of (period_test period) (require (ltb n max_periods) FullCount 0)

-- "one without room counts as refused"
unfoldable pub accepts : (n : ℕ) → StepCall → Bool
accepts n c = accepted_by (call_test n c.period) c

-- "The accepted steps' periods, in order, are the periods so far": after one call more
unfoldable pub periods_after : List Period → StepCall → List Period
periods_after w c = cond (accepts (length w) c) (w ++ (period_in c.period ∷ [])) w

-- number 0, place 0 and exactly the verdict, blame and decision period of the clause's meaning on these periods
unfoldable pub meant_answer : Clause → List Period → Answer
meant_answer clause w =
    let d = meaning clause w in
    step_answer (verdict_number (verdict d (length w))) (blame d) (decision_period d)

-- what a call gives when it finds this state, after the periods w
pub record AnswersCall (clause : Clause) (image state : List ℕ) (w : List Period) (c : StepCall) : Type 0 where
  -- without room it changes nothing
  pub no_room : length c.reply < step_reply_bytes → step image state c.period c.reply ≡ unwritten state c.reply
  -- refused, it leaves the state as it was and replies with the refusal's number and place
  pub refused : step_reply_bytes ≤ length c.reply → accepts (length w) c ≡ false
      → step image state c.period c.reply ≡ written state c.reply (call_test (length w) c.period) (step_answer 0 0 0)
  -- accepted, it replies what the clause means on the periods so far, its own included
  pub accepted : accepts (length w) c ≡ true
      → ((step image state c.period c.reply).result ≡ 1)
      × ((step image state c.period c.reply).reply ≡ sets c.reply 0 (reply_of Passed (meant_answer clause (periods_after w c))))

-- Every call of a list is answered so, where the first finds this state after the periods w, and each later one what the last one left; and
-- all along periods taken is the number of the periods so far.
unfoldable pub AnswersCalls : Clause → (image state : List ℕ) → List Period → List StepCall → Type 0
AnswersCalls clause image state w [] = (state_of state).periods ≡ length w
AnswersCalls clause image state w (c ∷ cs) =
    ((state_of state).periods ≡ length w)
    × AnswersCall clause image state w c
    × AnswersCalls clause image (state_after_call image state c) (periods_after w c) cs

-- "the decision period, or the trace's record count when undecided"
abbrev pub records_for : Decision → (count : ℕ) → ℕ
records_for undecided n = n
records_for (satisfied k) n = k
records_for (violated k b) n = k

-- the records that decide reads of a trace, by what the clause means on its periods
abbrev pub meant_records : Clause → (trace : List ℕ) → ℕ
meant_records clause trace =
    let n = period_records trace in
    records_for (meaning clause (trace_periods trace n)) n

-- the first record's mark, then "length is still tested first. A trace of more than 4,294,967,295 records meets 12 next."; then the marks of the records
-- read
unfoldable pub trace_test_for : Clause → (trace : List ℕ) → Test
trace_test_for clause trace =
    first_of (first_of (start_test trace) (count_test 0 (period_records trace))) (marks_test (form_of trace) trace (meant_records clause trace))

-- the decision of the clause's meaning on the trace's periods, and the records read
unfoldable pub meant_trace_answer : Clause → (trace : List ℕ) → Answer
meant_trace_answer clause trace =
    let d = meaning clause (trace_periods trace (period_records trace)) in
    decide_answer (outcome d) (blame d) (decision_period d) (meant_records clause trace)

-- The image monitors the contract: the contract's records spell a clause, which decides every list of periods at one period or at none; begin,
-- given room for its reply, accepts the image with a state of 10 + rows bytes, whatever these held; from the state that it leaves every list of
-- step calls is answered by what that clause means; and decide on every trace tests and answers by it.
pub record Monitors (contract image : List ℕ) : Type 0 where
  pub clause : Clause
  pub spells : Spells contract clause
  pub decides : (w : List Period) → DecidesOnce clause w
  pub answers : (state reply : List ℕ) → length state ≡ head_bytes + row_count image → head_size ≤ length reply
      → (begin image state reply ≡ written (replicate (length state) 0) reply Passed (alone 0))
      × ((calls : List StepCall) → AnswersCalls clause image (begin image state reply).buffers [] calls)
  pub answers_trace : (trace reply : List ℕ) → decide image trace reply ≡ call (trace_test_for clause trace) (meant_trace_answer clause trace) tt tt reply
