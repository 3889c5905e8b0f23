-- Demand 3 as the request has it, of the bytes that compile leaves: the page to check the claim by. Sizes, numbers and places are literal here, as
-- documents 01 and 02 have them. `begin`, `step` and `decide` are what the calls' own contracts say that they leave. Document 01, "Calls", from "The
-- list in demand 3"; of decide document 02, "Stop reading once it is decided".
use Rattle.std.specs.Prelude.{ℕ, ◌+◌, ◌*◌, ◌≤◌, ◌<◌, Bool, true, false, ◌&&◌, cond, List, [], ◌∷◌, ◌++◌, ◌⊎◌, ◌↔◌, ◌≡◌, eqb, ltb, leb, length, take, replicate}
use Rattle.std.proofs.lemmas.List.Edits.{sets}
use Rattle.records.specs.Fields.{bytes, field}
use Rattle.records.specs.Verdicts.{verdict_number}
use Rattle.records.specs.Refusals.{Passed, passed}
use Rattle.periods.specs.Periods.{Period}
use Rattle.periods.specs.Traces.{marked_at, form_of, period_records, trace_periods, start_test, period_in, period_test}
use Rattle.layout.specs.Refusals.{image_test}
use Rattle.calls.specs.Calls.{begin, step, decide}
use Rattle.calls.specs.StepCalls.{StepCall, state_after}
use Rattle.contract.specs.Meaning.{Clause, Decision, undecided, meaning}
use Rattle.contract.specs.Verdicts.{outcome, decision_period, blame, verdict}
use Rattle.grammar.specs.Spelling.{Spells}
use Rattle.grammar.specs.Reader.{contract_records, contract_windows}

-- ---- "that meaning decides at one period or at none"

-- what the clause means on the first n periods of a list: this verdict's number, this blame, this decision period
pub record Tells (c : Clause) (w : List Period) (n : ℕ) (number blamed period : ℕ) : Type 0 where
  pub verdict_is : verdict_number (verdict (meaning c (take n w)) n) ≡ number
  pub blame_is : blame (meaning c (take n w)) ≡ blamed
  pub period_is : decision_period (meaning c (take n w)) ≡ period

-- open (0) before period k, one verdict in it and another later, with the same blame and decision period
pub record DecidedAt (c : Clause) (w : List Period) (k : ℕ) (now later blamed : ℕ) : Type 0 where
  pub from_1 : 1 ≤ k
  pub within : k ≤ length w
  pub before : (n : ℕ) → n < k → Tells c w n 0 0 0
  pub at : Tells c w k now blamed k
  pub after : (n : ℕ) → k < n → n ≤ length w → Tells c w n later blamed k

-- at none: open all along; at one: met (1) and then met-after (3), or broken (2) and then broken-after (4), blame 1 to 3
pub data Course (c : Clause) (w : List Period) : Type 0 where
  at_none : ((n : ℕ) → n ≤ length w → Tells c w n 0 0 0) → Course c w
  met_at : (k : ℕ) → DecidedAt c w k 1 3 0 → Course c w
  broken_at : (k b : ℕ) → 1 ≤ b → b ≤ 3 → DecidedAt c w k 2 4 b → Course c w

-- ---- a list of step calls

-- after n accepted steps one more is accepted: room for a reply of 24 bytes, a good record, and not 4,294,967,295 before it
abbrev pub accepted_after : (n : ℕ) → StepCall → Bool
accepted_after n call = leb 24 (length call.reply) && (passed (period_test call.period) && ltb n 4294967295)

-- "The accepted steps' periods, in order, are the periods so far": w, and then those of a list of calls
unfoldable pub periods_so_far : List Period → List StepCall → List Period
periods_so_far w [] = w
periods_so_far w (call ∷ calls) = periods_so_far (cond (accepted_after (length w) call) (w ++ (period_in call.period ∷ [])) w) calls

-- the 24 bytes of step's reply
abbrev pub step_bytes : (number verdict place blame decision : ℕ) → List ℕ
step_bytes number v place b d = bytes 4 number ++ (bytes 4 v ++ (bytes 8 place ++ (bytes 4 b ++ bytes 4 d)))

-- what a step leaves that finds this state after the periods w
pub record Answers (c : Clause) (image state : List ℕ) (w : List Period) (call : StepCall) : Type 0 where
  -- "periods taken is their number"
  pub counted : field state 2 4 ≡ length w
  -- "one without room counts as refused": nothing is written
  pub no_room : length call.reply < 24
      → step image state call.period call.reply ≡ record { result = 0; buffers = state; reply = call.reply }
  -- "refused exactly when its own record meets 11", and the state is as it was
  pub bad_record : 24 ≤ length call.reply → passed (period_test call.period) ≡ false
      → step image state call.period call.reply ≡ record { result = 1; buffers = state; reply = sets call.reply 0 (step_bytes 11 0 0 0 0) }
  -- "or, that record being good, 4,294,967,295 steps before it were accepted (12)"
  pub full_count : 24 ≤ length call.reply → passed (period_test call.period) ≡ true → 4294967295 ≤ length w
      → step image state call.period call.reply ≡ record { result = 1; buffers = state; reply = sets call.reply 0 (step_bytes 12 0 0 0 0) }
  -- otherwise "exactly the verdict, decision period and blame of the contract's meaning on the periods accepted so far", its own among them
  pub accepted : accepted_after (length w) call ≡ true
      → let u = w ++ (period_in call.period ∷ []) in
      let d = meaning c u in
      ((step image state call.period call.reply).result ≡ 1)
      × ((step image state call.period call.reply).reply
      ≡ sets call.reply 0 (step_bytes 0 (verdict_number (verdict d (length u))) 0 (blame d) (decision_period d)))

-- ---- decide

-- the 32 bytes of decide's reply
abbrev pub decide_bytes : (number outcome place blame decision records : ℕ) → List ℕ
decide_bytes number o place b d n = bytes 4 number ++ (bytes 4 o ++ (bytes 8 place ++ (bytes 4 b ++ (bytes 4 d ++ (bytes 4 n ++ bytes 4 0)))))

-- what the clause means on all periods of a trace, and how many records that takes: "the decision period, or the trace's record count when undecided"
abbrev pub meant : Clause → (trace : List ℕ) → Decision
meant c trace = meaning c (trace_periods trace (period_records trace))

abbrev pub read_of : Clause → (trace : List ℕ) → ℕ
read_of c trace = cond (eqb (outcome (meant c trace)) 0) (period_records trace) (decision_period (meant c trace))

-- what decide leaves, with any bytes as its trace
pub record Decides (c : Clause) (image trace area : List ℕ) : Type 0 where
  -- without room nothing is written
  pub no_room : length area < 32 → decide image trace area ≡ record { result = 0; buffers = tt; reply = area }
  -- 11 at 0: the first record's mark, the trace's length
  pub bad_start : 32 ≤ length area → ¬ (start_test trace ≡ Passed)
      → decide image trace area ≡ record { result = 1; buffers = tt; reply = sets area 0 (decide_bytes 11 0 0 0 0 0) }
  -- "A trace of more than 4,294,967,295 records meets 12 next."
  pub too_many : 32 ≤ length area → start_test trace ≡ Passed → 4294967295 < period_records trace
      → decide image trace area ≡ record { result = 1; buffers = tt; reply = sets area 0 (decide_bytes 12 0 4294967295 0 0 0) }
  -- 11 at record k, the first of wrong mark among those read
  pub bad_mark : 32 ≤ length area → start_test trace ≡ Passed → period_records trace ≤ 4294967295
      → (k : ℕ) → k < read_of c trace → ((i : ℕ) → i < k → marked_at (form_of trace) trace i ≡ true) → marked_at (form_of trace) trace k ≡ false
      → decide image trace area ≡ record { result = 1; buffers = tt; reply = sets area 0 (decide_bytes 11 0 k 0 0 0) }
  -- otherwise "outcome, blame, decision period and the number of period records it read"; marks behind these don't count
  pub accepted : 32 ≤ length area → start_test trace ≡ Passed → period_records trace ≤ 4294967295
      → ((i : ℕ) → i < read_of c trace → marked_at (form_of trace) trace i ≡ true)
      → let d = meant c trace in
      decide image trace area
      ≡ record { result = 1; buffers = tt; reply = sets area 0 (decide_bytes 0 (outcome d) 0 (blame d) (decision_period d) (read_of c trace)) }

-- ---- the claim

-- "all get the image that it wrote": the first 8 × (rows + 1) bytes of the buffer
abbrev pub image_in : (buffer : List ℕ) (rows : ℕ) → List ℕ
image_in buffer rows = take (8 * (rows + 1)) buffer

-- what compile's buffer and reply hold for a contract that spells the clause
pub record Monitored (contract : List ℕ) (c : Clause) (buffer reply : List ℕ) : Type 0 where
  pub rows : ℕ
  -- number 0, the row count, place 0
  pub number_is : field reply 0 4 ≡ 0
  pub rows_are : field reply 4 4 ≡ rows
  pub place_is : field reply 8 8 ≡ 0
  pub few_rows : rows ≤ 32 * contract_records contract + 64 + 4 * contract_windows contract
  pub good_image_lem : image_test (image_in buffer rows) ≡ Passed
  -- "Begin, given room for its reply, accepts that image with a state of 10 + rows bytes, whatever these held."
  pub begins : (state area : List ℕ) → length state ≡ 10 + rows → 16 ≤ length area
      → begin (image_in buffer rows) state area ≡ record { result = 1; buffers = replicate (10 + rows) 0; reply = sets area 0 (replicate 16 0) }
  -- "The first step gets the state from that begin, each later one what the last step left": any step behind any list of them
  pub steps : (calls : List StepCall) (call : StepCall)
      → Answers c (image_in buffer rows) (state_after (image_in buffer rows) (replicate (10 + rows) 0) calls) (periods_so_far [] calls) call
  pub open_at_first : meaning c [] ≡ undecided
  pub once : (w : List Period) → Course c w
  pub decides : (trace area : List ℕ) → Decides c (image_in buffer rows) trace area

-- what compile leaves
pub record Demand3 (contract buffer area : List ℕ) (result : ℕ) (later-buffer later-area : List ℕ) : Type 0 where
  -- without room for its reply it writes nothing
  pub no_room : length area < 16 → (result ≡ 0) × (later-buffer ≡ buffer) × (later-area ≡ area)
  -- "A contract is taken exactly when its records spell one contract.": its number is then 0 or 8
  pub taken : 16 ≤ length area → ((field later-area 0 4 ≡ 0) ⊎ (field later-area 0 4 ≡ 8)) ↔ ((c : Clause) × Spells contract c)
  pub one_contract : (c d : Clause) → Spells contract c → Spells contract d → c ≡ d
  -- "Compile, given room for its reply and a buffer that doesn't meet 8, accepts the contract"
  pub monitored : (c : Clause) → Spells contract c → 16 ≤ length area
      → 8 * (32 * contract_records contract + 65 + 4 * contract_windows contract) ≤ length buffer
      → (result ≡ 1) × Monitored contract c later-buffer later-area
