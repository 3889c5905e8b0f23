-- What step's and run's program computes with: their answer in numbers, and the reply's bytes.
use Rattle.std.specs.Prelude.{ℕ, List, Result, Ok, Err}
use Rattle.records.specs.declared.Refusal.{Refusal}
use Rattle.records.specs.Verdicts.{verdict_number}
use Rattle.records.specs.Refusals.{Passed}
use Rattle.records.specs.Replies.{reply_of}
use Rattle.states.specs.States.{State}
use Rattle.states.specs.Verdicts.{verdict}
use Rattle.calls.specs.Calls.{step_answer}
use Rattle.runner.specs.declared.StepAnswer.{StepAnswer}

-- the answer that a state gives
abbrev pub answer_of : State → StepAnswer
answer_of s = record { verdict = verdict_number (verdict s); blame = s.blame; decision = s.decision }

-- the bytes of the reply that has an answer, or a refusal and zeros
abbrev pub reply_with : Result StepAnswer Refusal → List ℕ
reply_with (Ok a) = reply_of Passed (step_answer a.verdict a.blame a.decision)
reply_with (Err r) = reply_of (Err r) (step_answer 0 0 0)
