-- Vectors of begin, step, run and decide. What is expected stands in bytes, from the text of documents 01 and 02, but in `not_too_many`.
use Rattle.std.specs.Prelude.{ℕ, ◌≤◌, ◌<◌, List, [], ◌∷◌, ◌++◌, map, ◌≡◌, replicate}
use Rattle.records.specs.declared.Fault.TheVariants.{BadPeriod}
use Rattle.records.specs.Replies.{After}
use Rattle.records.specs.Examples.{area, head, leaves}
use Rattle.periods.specs.Examples.{narrow_record, wide_record, other_record, long_other_record, wide_cut, narrow_long}
use Rattle.periods.specs.Traces.{marks_test, form_of, period_records, start_test}
use Rattle.layout.specs.Examples.{row, end}
use Rattle.states.specs.Examples.{state}
use Rattle.calls.specs.Reading.{records_read}
use Rattle.calls.specs.Refusals.{decide_test}
use Rattle.calls.specs.Calls.{begin, step, run, decide}
use Rattle.calls.specs.StepCalls.{StepCall, state_after, accepted_count}
use Rattle.records.specs.Refusals.{Passed, Refused}

-- step's and run's reply: number, verdict, place, then blame (4 bytes) and decision period (4)
abbrev pub reply : (number verdict place blame decision : ℕ) → List ℕ
reply number verdict place blame decision = head number verdict place ++ (blame ∷ 0 ∷ 0 ∷ 0 ∷ decision ∷ 0 ∷ 0 ∷ 0 ∷ [])

-- step and run on one record
abbrev pub step_and_run : (image state period : List ℕ) → List (After (List ℕ))
step_and_run image state period = step image state period (area 25) ∷ run image state period (area 25) ∷ []

-- party 1 tries action 0; the same in the period before, V1; false, S and V2
abbrev pub good_image : List ℕ
good_image = row 2 1 0 ++ row 6 0 0 ++ row 0 0 0 ++ end 2 1 2

-- the table's small inputs: row 0 of kind 3
abbrev pub bad_image : List ℕ
bad_image = row 3 0 0 ++ row 6 0 0 ++ row 0 0 0 ++ end 2 1 2

-- outcome 3, on a full count
abbrev pub unsound : List ℕ
unsound = 3 ∷ 0 ∷ 255 ∷ 255 ∷ 255 ∷ 255 ∷ 1 ∷ 0 ∷ 0 ∷ 0 ∷ 0 ∷ 0 ∷ 0 ∷ []

-- 7 bytes
abbrev pub seven_bytes : List ℕ
seven_bytes = narrow_record 1 1 ++ (0 ∷ [])

-- a full count, and one period less
abbrev pub full : List ℕ
full = 0 ∷ 0 ∷ 255 ∷ 255 ∷ 255 ∷ 255 ∷ 0 ∷ 0 ∷ 0 ∷ 0 ∷ 1 ∷ 0 ∷ 0 ∷ []

abbrev pub one_left : List ℕ
one_left = 0 ∷ 0 ∷ 254 ∷ 255 ∷ 255 ∷ 255 ∷ 0 ∷ 0 ∷ 0 ∷ 0 ∷ 0 ∷ 0 ∷ 0 ∷ []

-- "A refusal gives its number and a place; every other field is 0 and every lent buffer but the reply's area is unchanged."
pub record RefusalVectors : Type 0 where
  -- "Begin, step and run test 9, 10, 11, 12 as far as they apply": each of these inputs has the later faults too
  pub by_9 : begin bad_image (area 12) (area 17) ∷ step_and_run bad_image unsound seven_bytes
      ≡ leaves (area 12) (head 9 0 0) ∷ replicate 2 (leaves unsound (reply 9 0 0 0 0))
  pub by_10 : begin good_image (area 12) (area 17) ∷ step_and_run good_image unsound seven_bytes
      ≡ leaves (area 12) (head 10 0 0) ∷ replicate 2 (leaves unsound (reply 10 0 0 0 0))
  pub by_11 : step_and_run good_image full seven_bytes ≡ replicate 2 (leaves full (reply 11 0 0 0 0))
  -- 11 by a wrong first mark, of either length, on a full count too
  pub by_11_mark : step_and_run good_image full other_record ++ step_and_run good_image full long_other_record ≡ replicate 4 (leaves full (reply 11 0 0 0 0))
  pub by_12 : step_and_run good_image full (narrow_record 1 1) ≡ replicate 2 (leaves full (reply 12 0 0 0 0))
  -- places: row 1 of an image; the end record after two rows
  pub bad_row : begin (row 0 0 0 ++ row 7 0 0 ++ end 0 0 0) full (area 17) ∷ step_and_run (row 0 0 0 ++ row 7 0 0 ++ end 0 0 0) full (narrow_record 1 1)
      ≡ leaves full (head 9 0 1) ∷ replicate 2 (leaves full (reply 9 0 1 0 0))
  pub bad_end : step_and_run (row 0 0 0 ++ row 0 0 0 ++ end 2 0 0) full (narrow_record 1 1) ≡ replicate 2 (leaves full (reply 9 0 2 0 0))
  -- record 1 of a trace has a wrong mark; the count is full before record 1
  pub bad_record : run good_image full (narrow_record 1 1 ++ other_record) (area 25) ≡ leaves full (reply 11 0 1 0 0)
  pub full_at_1 : run good_image one_left (narrow_record 1 1 ++ narrow_record 1 1) (area 25) ≡ leaves one_left (reply 12 0 1 0 0)

pub record CallVectors : Type 0 where
  -- "Begin sets a state to zeros."
  pub begun : begin good_image (area 13) (area 17) ≡ leaves (replicate 13 0) (head 0 0 0)
  -- an image of one row, with a state of 11 bytes
  pub one_row : begin (row 2 1 0 ++ end 0 0 0) (area 11) (area 17) ∷ step_and_run (row 2 1 0 ++ end 0 0 0) (replicate 11 0) (narrow_record 1 0)
      ≡ leaves (replicate 11 0) (head 0 0 0) ∷ replicate 2 (leaves (state 2 3 1 1 (1 ∷ [])) (reply 0 2 0 3 1))
  -- "Step takes one period record." Open; then broken in period 3, blame 1; then broken-after
  pub still_open : step_and_run good_image (state 0 0 1 0 (0 ∷ 0 ∷ 0 ∷ [])) (narrow_record 1 0)
      ≡ replicate 2 (leaves (state 0 0 2 0 (1 ∷ 0 ∷ 0 ∷ [])) (reply 0 0 0 0 0))
  pub broken_now : step_and_run good_image (state 0 0 2 0 (1 ∷ 0 ∷ 0 ∷ [])) (narrow_record 0 0)
      ≡ replicate 2 (leaves (state 2 1 3 3 (0 ∷ 1 ∷ 0 ∷ [])) (reply 0 2 0 1 3))
  pub broken_later : step_and_run good_image (state 2 1 3 3 (0 ∷ 1 ∷ 0 ∷ [])) (narrow_record 1 1)
      ≡ replicate 2 (leaves (state 2 1 4 3 (0 ∷ 1 ∷ 0 ∷ [])) (reply 0 4 0 1 3))
  -- the last period that is counted
  pub last_period : step_and_run good_image one_left (narrow_record 1 1) ≡ replicate 2 (leaves full (reply 0 0 0 0 0))
  -- "Run takes a state and a trace of zero or more period records and ends as that many steps would."
  pub run_of_two : run good_image (replicate 13 0) (narrow_record 1 0 ++ narrow_record 0 0) (area 25)
      ≡ leaves (state 2 1 2 2 (0 ∷ 1 ∷ 0 ∷ [])) (reply 0 2 0 1 2)
  -- "of the state they leave, also for zero records", on a full count too
  pub run_of_none :
      map (λ (l : List ℕ). run good_image l [] (area 25)) (state 2 1 3 3 (0 ∷ 1 ∷ 0 ∷ []) ∷ state 2 1 4 3 (0 ∷ 1 ∷ 0 ∷ []) ∷ full ∷ [])
      ≡ leaves (state 2 1 3 3 (0 ∷ 1 ∷ 0 ∷ [])) (reply 0 2 0 1 3)
      ∷ leaves (state 2 1 4 3 (0 ∷ 1 ∷ 0 ∷ [])) (reply 0 4 0 1 3)
      ∷ leaves full (reply 0 0 0 0 0)
      ∷ []
  -- "If that area is too short for the reply, the call writes nothing anywhere": 15 bytes in begin, 23 in step and run
  pub no_room :
      begin good_image (area 13) (area 15)
      ∷ step good_image (replicate 13 0) (narrow_record 1 0) (area 23)
      ∷ run good_image (replicate 13 0) (narrow_record 1 0) (area 23)
      ∷ []
      ≡ record { result = 0; buffers = area 13; reply = area 15 }
      ∷ replicate 2 (record { result = 0; buffers = replicate 13 0; reply = area 23 })
  pub just_room : step good_image (replicate 13 0) (narrow_record 1 0) (area 24)
      ≡ record { result = 1; buffers = state 0 0 1 0 (1 ∷ 0 ∷ 0 ∷ []); reply = reply 0 0 0 0 0 }

-- a list of step calls: one without room for its reply, one that is refused, one that is accepted
abbrev pub three_calls : List StepCall
three_calls =
    record { period = narrow_record 1 0; reply = area 23 }
    ∷ record { period = seven_bytes; reply = area 24 }
    ∷ record { period = narrow_record 1 0; reply = area 24 } ∷ []

pub record StepCallVectors : Type 0 where
  pub counted : accepted_count good_image (replicate 13 0) three_calls ≡ 1
  pub left : state_after good_image (replicate 13 0) three_calls ≡ state 0 0 1 0 (1 ∷ 0 ∷ 0 ∷ [])

-- decide's reply: number, outcome, place, then blame (4 bytes), decision period (4), records read (4) and a zero (4)
abbrev pub decide_reply : (number outcome place blame decision records : ℕ) → List ℕ
decide_reply number outcome place blame decision records =
    head number outcome place ++ (blame ∷ 0 ∷ 0 ∷ 0 ∷ decision ∷ 0 ∷ 0 ∷ 0 ∷ records ∷ 0 ∷ 0 ∷ 0 ∷ 0 ∷ 0 ∷ 0 ∷ 0 ∷ [])

-- decide with room for one byte past the reply
abbrev pub decided : (image trace : List ℕ) → After Unit
decided image trace = decide image trace (area 33)

-- rows: false; true in period 1; true in period 2; party 1 tries action 0; party 2 does; both do
abbrev pub deciding_by : (S V1 V2 : ℕ) → List ℕ
deciding_by s v w = row 0 0 0 ++ row 1 0 0 ++ row 6 1 0 ++ row 2 1 0 ++ row 2 2 0 ++ row 4 3 4 ++ end s v w

-- `good_image` is broken by party 1 in the period after one in which it tries
abbrev pub broken_at2 : List ℕ
broken_at2 = narrow_record 1 0 ++ narrow_record 0 0

-- "Stop reading once it is decided"
pub record DecideVectors : Type 0 where
  -- no record; undecided: "the trace's record count"
  pub undecided : map (decided good_image) ([] ∷ narrow_record 1 0 ∷ (narrow_record 0 0 ++ narrow_record 0 0 ++ narrow_record 1 0) ∷ [])
      ≡ leaves tt (decide_reply 0 0 0 0 0 0) ∷ leaves tt (decide_reply 0 0 0 0 0 1) ∷ leaves tt (decide_reply 0 0 0 0 0 3) ∷ []
  -- "That number is the decision period": at the last record, and with more behind it
  pub violated : map (decided good_image) (broken_at2 ∷ (broken_at2 ++ narrow_record 1 1 ++ narrow_record 0 0) ∷ (narrow_record 0 0 ++ broken_at2 ++ narrow_record 0 0) ∷ [])
      ≡ leaves tt (decide_reply 0 2 0 1 2 2) ∷ leaves tt (decide_reply 0 2 0 1 2 2) ∷ leaves tt (decide_reply 0 2 0 1 3 3) ∷ []
  -- satisfied in period 1; violated in period 2 with blame 2 and with 3; satisfied and violated at once is violated; satisfied by what both try in period 3
  pub each_outcome :
      map (λ (image : List ℕ). decided image (narrow_record 0 1 ++ narrow_record 1 0 ++ narrow_record 1 1 ++ narrow_record 0 0))
      (deciding_by 1 0 0 ∷ deciding_by 0 0 2 ∷ deciding_by 0 2 2 ∷ deciding_by 1 1 0 ∷ deciding_by 5 0 0 ∷ [])
      ≡ leaves tt (decide_reply 0 1 0 0 1 1)
      ∷ leaves tt (decide_reply 0 2 0 2 2 2)
      ∷ leaves tt (decide_reply 0 2 0 3 2 2)
      ∷ leaves tt (decide_reply 0 2 0 1 1 1)
      ∷ leaves tt (decide_reply 0 1 0 0 3 3)
      ∷ []
  -- "Records after the decision aren't looked at, so a bad mark there is no refusal in this call."
  pub bad_after : map (decided good_image) ((broken_at2 ++ other_record) ∷ (broken_at2 ++ narrow_record 0 0 ++ other_record) ∷ [])
      ≡ replicate 2 (leaves tt (decide_reply 0 2 0 1 2 2))
  -- before it: record 0, record 1 of three, the first of two
  pub bad_before :
      map (decided good_image)
      ((other_record ++ narrow_record 0 0) ∷ (narrow_record 0 0 ++ other_record ++ narrow_record 0 0) ∷ (narrow_record 0 0 ++ other_record ++ other_record) ∷ [])
      ≡ leaves tt (decide_reply 11 0 0 0 0 0) ∷ leaves tt (decide_reply 11 0 1 0 0 0) ∷ leaves tt (decide_reply 11 0 1 0 0 0) ∷ []
  -- where nothing decides: record 0, the last of two, the first of two
  pub bad_undecided : map (decided (deciding_by 0 0 0)) (other_record ∷ (narrow_record 1 1 ++ other_record) ∷ (narrow_record 1 1 ++ other_record ++ other_record) ∷ [])
      ≡ leaves tt (decide_reply 11 0 0 0 0 0) ∷ leaves tt (decide_reply 11 0 1 0 0 0) ∷ leaves tt (decide_reply 11 0 1 0 0 0) ∷ []
  -- at it: the record that would decide
  pub bad_deciding : decided good_image (narrow_record 1 0 ++ other_record) ∷ decided (deciding_by 1 0 0) other_record ∷ []
      ≡ leaves tt (decide_reply 11 0 1 0 0 0) ∷ leaves tt (decide_reply 11 0 0 0 0 0) ∷ []
  -- "After 9, length is still tested first": 7 bytes; 13 bytes, though record 1 decides; 13 bytes with a wrong mark in record 1
  pub bad_length : map (decided good_image) (seven_bytes ∷ (broken_at2 ++ (0 ∷ [])) ∷ (narrow_record 0 0 ++ other_record ++ (0 ∷ [])) ∷ [])
      ≡ replicate 3 (leaves tt (decide_reply 11 0 0 0 0 0))
  -- a single byte, the first mark and the length, however many records there are
  pub start_first : (trace : List ℕ) → start_test trace ≡ Refused BadPeriod 0 → decided good_image trace ≡ leaves tt (decide_reply 11 0 0 0 0 0)
  -- "A trace of more than 4,294,967,295 records meets 12 next.", at the first record too many, whatever marks and periods it has
  pub too_many : (trace : List ℕ) → start_test trace ≡ Passed → 4294967295 < period_records trace
      → decided good_image trace ≡ leaves tt (12 ∷ 0 ∷ 0 ∷ 0 ∷ 0 ∷ 0 ∷ 0 ∷ 0 ∷ 255 ∷ 255 ∷ 255 ∷ 255 ∷ replicate 20 0)
  -- no more than so many don't meet it: only the marks are tested then
  pub not_too_many : (trace : List ℕ) → start_test trace ≡ Passed → period_records trace ≤ 4294967295
      → decide_test good_image trace ≡ marks_test (form_of trace) trace (records_read good_image trace)
  -- 9 before all of these, whatever the trace; at row 0, row 1 and the end record after two rows
  pub image_first : (trace : List ℕ) → decided bad_image trace ≡ leaves tt (decide_reply 9 0 0 0 0 0)
  pub bad_images : map (λ (image : List ℕ). decided image seven_bytes) ((row 0 0 0 ++ row 7 0 0 ++ end 0 0 0) ∷ (row 0 0 0 ++ row 0 0 0 ++ end 2 0 0) ∷ [])
      ≡ leaves tt (decide_reply 9 0 1 0 0 0) ∷ leaves tt (decide_reply 9 0 2 0 0 0) ∷ []
  -- a reply of 32 bytes, also where only number and place would be other than 0
  pub short_area : decide good_image broken_at2 (area 31) ∷ decide bad_image seven_bytes (area 31) ∷ []
      ≡ replicate 2 (record { result = 0; buffers = tt; reply = area 31 })
  pub full_area : decide good_image broken_at2 (area 32) ≡ record { result = 1; buffers = tt; reply = decide_reply 0 2 0 1 2 2 }

-- two periods less than a full count
abbrev pub two_left : List ℕ
two_left = 0 ∷ 0 ∷ 253 ∷ 255 ∷ 255 ∷ 255 ∷ 0 ∷ 0 ∷ 0 ∷ 0 ∷ 0 ∷ 0 ∷ 0 ∷ []

-- S where party 1 tries action 31
abbrev pub upper_image : List ℕ
upper_image = row 2 1 31 ++ row 0 0 0 ++ end 0 1 1

-- step calls with these records
abbrev pub calls_with : List (List ℕ) → List StepCall
calls_with rs = map (λ (r : List ℕ). record { period = r; reply = area 24 }) rs

-- "Thirty-two actions"
pub record WideVectors : Type 0 where
  -- action 31 in a wide record; all that a narrow one can try: "its upper sixteen actions never tried"
  pub upper_action : step_and_run upper_image (replicate 12 0) (0x54 ∷ 0x51 ∷ 0 ∷ 0 ∷ 0 ∷ 0x80 ∷ 0 ∷ 0 ∷ 0 ∷ 0 ∷ [])
      ++ step_and_run upper_image (replicate 12 0) (0x54 ∷ 0x50 ∷ replicate 4 0xff)
      ≡ replicate 2 (leaves (state 1 0 1 1 (1 ∷ 0 ∷ [])) (reply 0 1 0 0 1)) ++ replicate 2 (leaves (state 0 0 1 0 (0 ∷ 0 ∷ [])) (reply 0 0 0 0 0))
  -- a run of two wide records, and steps in either form, one after the other
  pub wide_run : run good_image (replicate 13 0) (wide_record 1 0 ++ wide_record 0 0) (area 25) ≡ leaves (state 2 1 2 2 (0 ∷ 1 ∷ 0 ∷ [])) (reply 0 2 0 1 2)
  pub either_form :
      map (λ rs. state_after good_image (replicate 13 0) (calls_with rs)) ((narrow_record 1 0 ∷ wide_record 0 0 ∷ []) ∷ (wide_record 1 0 ∷ narrow_record 0 0 ∷ []) ∷ [])
      ≡ replicate 2 (state 2 1 2 2 (0 ∷ 1 ∷ 0 ∷ []))
  -- a step's record with the other form's mark; "refusal 11 meets a later record of the other"
  pub other_form_step : map (λ r. step good_image (replicate 13 0) r (area 25)) (wide_cut ∷ narrow_long ∷ []) ≡ replicate 2 (leaves (replicate 13 0) (reply 11 0 0 0 0))
  pub other_form_run : map (λ t. run good_image (replicate 13 0) t (area 25)) ((wide_record 1 1 ++ narrow_long) ∷ (narrow_record 1 1 ++ wide_cut) ∷ [])
      ≡ replicate 2 (leaves (replicate 13 0) (reply 11 0 1 0 0))
  -- a wrong mark at the same record of either form
  pub bad_in_both : map (λ t. run good_image (replicate 13 0) t (area 25)) ((narrow_record 1 1 ++ other_record) ∷ (wide_record 1 1 ++ long_other_record) ∷ [])
      ≡ replicate 2 (leaves (replicate 13 0) (reply 11 0 1 0 0))
  -- room for one of two wide records, and for both
  pub wide_count :
      run good_image one_left (wide_record 1 1 ++ wide_record 1 1) (area 25)
      ∷ run good_image two_left (wide_record 0 0 ++ wide_record 1 1) (area 25)
      ∷ []
      ≡ leaves one_left (reply 12 0 1 0 0) ∷ leaves full (reply 0 0 0 0 0) ∷ []
  -- decide reads records of the first one's form up to the decision
  pub wide_decided :
      map (decided good_image)
      ((wide_record 1 0 ++ wide_record 0 0 ++ wide_record 1 1) ∷ (wide_record 1 0 ++ wide_record 0 0 ++ narrow_long) ∷ (broken_at2 ++ wide_cut) ∷ [])
      ≡ replicate 3 (leaves tt (decide_reply 0 2 0 1 2 2))
  pub other_form_decided : map (decided good_image) ((wide_record 1 0 ++ narrow_long) ∷ (narrow_record 1 0 ++ wide_cut) ∷ []) ≡ replicate 2 (leaves tt (decide_reply 11 0 1 0 0 0))
  -- the first record's mark goes before the number of records, whatever follows
  pub first_mark_first : (rest : List ℕ) → decided good_image (other_record ++ rest) ≡ leaves tt (decide_reply 11 0 0 0 0 0)
  -- a single byte, and no byte
  pub fewest : map (decided good_image) ((0x54 ∷ []) ∷ [] ∷ []) ≡ leaves tt (decide_reply 11 0 0 0 0 0) ∷ leaves tt (decide_reply 0 0 0 0 0 0) ∷ []
