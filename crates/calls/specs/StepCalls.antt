-- Lists of step calls, each given the state that the last one left. Document 01, "Calls": "The list in demand 3 holds step calls only",
-- and "Run .. ends as that many steps would".
use Rattle.std.specs.Prelude.{ℕ, zero, suc, ◌+◌, Bool, ◌&&◌, cond, List, [], ◌∷◌, ◌++◌, ◌≡◌, leb, length}
use Rattle.std.proofs.lemmas.List.Edits.{sets}
use Rattle.records.specs.Refusals.{Test, Passed, passed}
use Rattle.records.specs.Replies.{reply_of}
use Rattle.periods.specs.Traces.{record_at, form_of, period_records}
use Rattle.states.specs.States.{state_of}
use Rattle.calls.specs.Refusals.{step_test}
use Rattle.calls.specs.Calls.{answer, step_reply_bytes, step, run}

-- a step call's own arguments: any bytes as its record, and a reply area of any length
pub record StepCall : Type 0 where
  pub period : List ℕ
  pub reply : List ℕ

-- a call whose tests find this is accepted where they are passed and it has room for its reply
abbrev pub accepted_by : Test → StepCall → Bool
accepted_by t c = leb step_reply_bytes (length c.reply) && passed t

unfoldable pub accepted : (image state : List ℕ) → StepCall → Bool
accepted image state c = accepted_by (step_test image state c.period) c

-- the state that a call leaves, and the state that a list of calls leaves
unfoldable pub state_after_call : (image state : List ℕ) → StepCall → List ℕ
state_after_call image state c = (step image state c.period c.reply).buffers

unfoldable pub state_after : (image state : List ℕ) → List StepCall → List ℕ
state_after image state [] = state
state_after image state (c ∷ cs) = state_after image (state_after_call image state c) cs

-- how many calls of a list are accepted
unfoldable pub accepted_count : (image state : List ℕ) → List StepCall → ℕ
accepted_count image state [] = 0
accepted_count image state (c ∷ cs) =
    cond (accepted image state c) 1 0 + accepted_count image (state_after_call image state c) cs

-- a step call for each of a trace's first n records, each with an area of these bytes
unfoldable pub calls_of : (trace reply : List ℕ) → ℕ → List StepCall
calls_of trace reply zero = []
calls_of trace reply (suc n) = calls_of trace reply n ++ (record { period = record_at (form_of trace) trace n; reply = reply } ∷ [])

-- A run ends as the steps of its records do: each of them is accepted, the state is the one that they leave, and the reply is the
-- last one's, or the state's own answer where there is none.
pub record EndsAsSteps (image state trace reply : List ℕ) : Type 0 where
  pub all : accepted_count image state (calls_of trace reply (period_records trace)) ≡ period_records trace
  pub same_state : (run image state trace reply).buffers ≡ state_after image state (calls_of trace reply (period_records trace))
  pub own_answer : period_records trace ≡ 0 → (run image state trace reply).reply ≡ sets reply 0 (reply_of Passed (answer (state_of state)))
  pub last_reply : (k : ℕ) → period_records trace ≡ suc k
      → (run image state trace reply).reply ≡ (step image (state_after image state (calls_of trace reply k)) (record_at (form_of trace) trace k) reply).reply

-- the steps of a trace's first k records are accepted, and the next one is refused by this test
pub record RefusedAt (image state trace reply : List ℕ) (k : ℕ) (t : Test) : Type 0 where
  pub before : accepted_count image state (calls_of trace reply k) ≡ k
  pub refuses : step_test image (state_after image state (calls_of trace reply k)) (record_at (form_of trace) trace k) ≡ t
