-- What begin, step, run and decide leave in the bytes that they were lent. Document 01, "Calls" and "Replies that refuse"; document 02, "Stop reading
-- once it is decided". Image, record and trace are lent to be read only, so they are afterwards as they were; the state is the one buffer beside the
-- reply area, and decide has none.
use Rattle.std.specs.Prelude.{ℕ, List, [], ◌∷◌, length, replicate}
use Rattle.records.specs.Verdicts.{verdict_number}
use Rattle.records.specs.Replies.{four, Answer, alone, reply_bytes, After, call}
use Rattle.periods.specs.Traces.{period_records, trace_periods, period_in}
use Rattle.layout.specs.Images.{image_of}
use Rattle.states.specs.States.{State, state_of, state_bytes}
use Rattle.states.specs.Verdicts.{verdict}
use Rattle.machine.specs.Machine.{after_period, after_periods}
use Rattle.calls.specs.Reading.{state_after_records, records_read}
use Rattle.calls.specs.Refusals.{begin_test, step_test, run_test, decide_test}

-- ---- what they answer beside number and place: begin a zero

-- step and run: the verdict, and behind the place blame and decision period
abbrev pub step_answer : (verdict blame decision : ℕ) → Answer
step_answer v b d = record { own = v; others = four b ∷ four d ∷ [] }

-- "Step and run give verdict, blame and decision period of the state they leave"
abbrev pub answer : State → Answer
answer s = step_answer (verdict_number (verdict s)) s.blame s.decision

-- the bytes of step's and run's reply; begin's has the first three fields alone
abbrev pub step_reply_bytes : ℕ
step_reply_bytes = reply_bytes (step_answer 0 0 0)

-- decide: the outcome, and behind the place blame, decision period, the number of records read and a zero
abbrev pub decide_answer : (outcome blame decision records : ℕ) → Answer
decide_answer o b d n = record { own = o; others = four b ∷ four d ∷ four n ∷ four 0 ∷ [] }

-- "outcome, blame, decision period and the number of period records it read", of the state that these leave
abbrev pub answer_after : State → (records : ℕ) → Answer
answer_after s n = decide_answer s.outcome s.blame s.decision n

abbrev pub decide_reply_bytes : ℕ
decide_reply_bytes = reply_bytes (decide_answer 0 0 0 0)

-- ---- the calls

-- "Begin sets a state to zeros."
unfoldable pub begin : (image state reply : List ℕ) → After (List ℕ)
begin image state reply = call (begin_test image state) (alone 0) state (replicate (length state) 0) reply

-- "Step takes one period record."
unfoldable pub step : (image state period reply : List ℕ) → After (List ℕ)
step image state period reply =
    let later = after_period (image_of image) (period_in period) (state_of state) in
    call (step_test image state period) (answer later) state (state_bytes later) reply

-- "Run takes a state and a trace of zero or more period records and ends as that many steps would."
unfoldable pub run : (image state trace reply : List ℕ) → After (List ℕ)
run image state trace reply =
    let later = after_periods (image_of image) (state_of state) (trace_periods trace (period_records trace)) in
    call (run_test image state trace) (answer later) state (state_bytes later) reply

-- "A new call takes an image and a trace and gives outcome, blame, decision period and the number of period records it read."
unfoldable pub decide : (image trace reply : List ℕ) → After Unit
decide image trace reply =
    let n = records_read image trace in
    call (decide_test image trace) (answer_after (state_after_records image trace n) n) tt tt reply
