-- What the inner functions need and give.
use Rattle.std.specs.Prelude.{ℕ, suc, ◌+◌, ◌*◌, ◌≤◌, ◌<◌, true, List, [], ◌≡◌, length}
use Rattle.records.specs.Refusals.{Passed}
use Rattle.periods.specs.Periods.{Period}
use Rattle.periods.specs.Traces.{marked_at, form_of, period_records, trace_test, trace_periods}
use Rattle.layout.specs.Limits.{row_bytes, max_rows}
use Rattle.layout.specs.Images.{row_count}
use Rattle.states.specs.Limits.{head_bytes}
use Rattle.calls.specs.StepCalls.{StepCall}
use Rattle.contract.specs.Meaning.{Clause, EmptyFree, meaning}
use Rattle.contract.specs.Verdicts.{decision_period, blame, verdict}
use Rattle.image.specs.Monitors.{AnswersCalls, Monitors}
use Rattle.compiler.specs.Calls.{first_image}
use Rattle.report.specs.declared.Text.{Text}
use Rattle.report.specs.declared.Stepped.{Stepped}
use Rattle.report.specs.Limits.{input_bytes, line_bytes, input_periods, text_bytes}
use Rattle.report.specs.Texts.{Puts}

-- these bytes have room behind the text
abbrev pub HasRoom : Text → List ℕ → Type 0
HasRoom t vs = t.len + length vs ≤ length t.bytes.now

-- these bytes are put behind the text, in the same buffer
pub record Appends (t : Text) (vs : List ℕ) (u : Text) : Type 0 where
  pub same_buffer : u.bytes.ghost_name ≡ t.bytes.ghost_name
  pub puts : Puts t.bytes.now t.len vs u.bytes.now u.len

-- an image of so many rows first in these bytes, which monitors the contract
pub record Served (contract later : List ℕ) (rows : ℕ) : Type 0 where
  pub few : rows ≤ max_rows
  pub within : row_bytes * (rows + 1) ≤ length later
  pub count : row_count (first_image rows later) ≡ rows
  pub monitors : Monitors contract (first_image rows later)

-- from this state, after the periods w, every list of step calls is answered by what the clause means
pub record Follows (c : Clause) (image state : List ℕ) (w : List Period) : Type 0 where
  pub free : EmptyFree c
  pub answers : (calls : List StepCall) → AnswersCalls c image state w calls

-- a state that follows a clause after a trace's first k periods, and a good record k
pub record MayStep (image state trace : List ℕ) (k : ℕ) : Type 0 where
  pub clause : Clause
  pub follows : Follows clause image state (trace_periods trace k)
  pub inside : k < period_records trace
  pub marked : marked_at (form_of trace) trace k ≡ true
  pub few : k < input_periods

-- the state follows the clause after one period more, and what is seen is what the clause means then
pub record Stepping (c : Clause) (image trace : List ℕ) (k : ℕ) (later : List ℕ) (r : Stepped) : Type 0 where
  pub follows : Follows c image later (trace_periods trace (suc k))
  pub verdict_is : r.verdict ≡ verdict (meaning c (trace_periods trace (suc k))) (suc k)
  pub blame_is : r.blame ≡ blame (meaning c (trace_periods trace (suc k)))
  pub decision_is : r.decision ≡ decision_period (meaning c (trace_periods trace (suc k)))

-- a state to begin with, a trace of n good records and room for their lines
pub record MayList (image state trace : List ℕ) (n : ℕ) (text : Text) : Type 0 where
  pub clause : Clause
  pub follows : Follows clause image state []
  pub whole : n ≤ period_records trace
  pub marks : (i : ℕ) → i < n → marked_at (form_of trace) trace i ≡ true
  pub few : n ≤ input_periods
  pub room : text.len + line_bytes * (n + 1) ≤ length text.bytes.now

-- an image that monitors a contract with its clause, a state for its rows, a trace without a fault and room for its lines
pub record MayFollow (image state trace : List ℕ) (text : Text) : Type 0 where
  pub contract : List ℕ
  pub monitors : Monitors contract image
  pub state_long : length state ≡ head_bytes + row_count image
  pub passed : trace_test trace ≡ Passed
  pub short : length trace ≤ input_bytes
  pub room : text.len + text_bytes ≤ length text.bytes.now
