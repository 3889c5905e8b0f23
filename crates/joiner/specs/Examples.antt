-- Vectors of join. What is expected stands in numbers and bytes, from document 02's text, "Join the two parties' logs".
use Rattle.std.specs.Prelude.{ℕ, ◌*◌, ◌<◌, List, [], ◌∷◌, ◌++◌, map, ◌≡◌, length, replicate, take}
use Rattle.records.specs.declared.Fault.TheVariants.{BadLog}
use Rattle.records.specs.Replies.{After}
use Rattle.records.specs.Examples.{number_and_place, area, head, leaves}
use Rattle.periods.specs.Examples.{wide_record}
use Rattle.joiner.specs.Logs.{log_records, number_at, attempts_at, attempts_in, last_number}
use Rattle.joiner.specs.Joined.{joined}
use Rattle.joiner.specs.Refusals.{length_test, log_test, order_test, join_test}
use Rattle.joiner.specs.Calls.{join}
use Rattle.records.specs.Refusals.{Passed, Refused}

-- a log record, of numbers below 256: "`54 4C`, a two-byte period number from 1, four bytes of attempts"
abbrev pub log_record : (number attempts : ℕ) → List ℕ
log_record number attempts = 0x54 ∷ 0x4c ∷ number ∷ 0 ∷ attempts ∷ 0 ∷ 0 ∷ 0 ∷ []

-- two records whose fields' bytes all differ, of periods 0x0102 and 0x090a
abbrev pub two_records : List ℕ
two_records = 0x54 ∷ 0x4c ∷ 2 ∷ 1 ∷ 8 ∷ 7 ∷ 6 ∷ 0x85 ∷ 0x54 ∷ 0x4c ∷ 10 ∷ 9 ∷ 16 ∷ 15 ∷ 14 ∷ 13 ∷ []

-- periods 1 and 3; 2 and 3; 4
abbrev pub one_and_three : List ℕ
one_and_three = log_record 1 1 ++ log_record 3 2

abbrev pub two_and_three : List ℕ
two_and_three = log_record 2 4 ++ log_record 3 8

abbrev pub four : List ℕ
four = log_record 4 16

-- bad records: a wrong second byte of the mark, a wrong first one, and period 0
abbrev pub other_log : List ℕ
other_log = 0x54 ∷ 0x50 ∷ 1 ∷ 0 ∷ 1 ∷ 0 ∷ 0 ∷ 0 ∷ []

abbrev pub other_first : List ℕ
other_first = 0x55 ∷ 0x4c ∷ 1 ∷ 0 ∷ 1 ∷ 0 ∷ 0 ∷ 0 ∷ []

abbrev pub period_zero : List ℕ
period_zero = log_record 0 1

-- out of order in record 1
abbrev pub falling : List ℕ
falling = log_record 3 1 ++ log_record 2 1

-- period 0x0101 alone
abbrev pub long_log : List ℕ
long_log = 0x54 ∷ 0x4c ∷ 1 ∷ 1 ∷ 1 ∷ 0 ∷ 0 ∷ 0 ∷ []

-- the lengths 0 to 17
abbrev pub lengths : List ℕ
lengths = 0 ∷ 1 ∷ 2 ∷ 3 ∷ 4 ∷ 5 ∷ 6 ∷ 7 ∷ 8 ∷ 9 ∷ 10 ∷ 11 ∷ 12 ∷ 13 ∷ 14 ∷ 15 ∷ 16 ∷ 17 ∷ []

-- join with a buffer of n bytes and an area of one byte more than its reply
abbrev pub joined_in : (n : ℕ) (log1 log2 : List ℕ) → After (List ℕ)
joined_in n log1 log2 = join log1 log2 (area n) (area 17)

-- number and place of join's tests, with room for three records
abbrev pub tested : (log1 log2 : List ℕ) → ℕ × ℕ
tested log1 log2 = number_and_place (join_test log1 log2 (area 30))

pub record JoinVectors : Type 0 where
  -- ---- logs
  -- 8 bytes a record; the number and then the attempts, low byte first
  pub record_counts : map log_records ([] ∷ four ∷ two_records ∷ []) ≡ 0 ∷ 1 ∷ 2 ∷ []
  pub numbers : map (number_at two_records) (0 ∷ 1 ∷ []) ≡ 0x0102 ∷ 0x090a ∷ []
  pub attempts : map (attempts_at two_records) (0 ∷ 1 ∷ []) ≡ 0x85060708 ∷ 0x0d0e0f10 ∷ []
  -- "a party tries nothing in a period that its log lacks", before, between and after its records, and anywhere in an empty log
  pub attempts_in_lem : map (attempts_in one_and_three) (0 ∷ 1 ∷ 2 ∷ 3 ∷ 4 ∷ []) ++ map (attempts_in []) (0 ∷ 1 ∷ []) ≡ 0 ∷ 1 ∷ 0 ∷ 2 ∷ 0 ∷ 0 ∷ 0 ∷ []
  pub last_numbers : map last_number ([] ∷ four ∷ one_and_three ∷ two_records ∷ []) ≡ 0 ∷ 4 ∷ 3 ∷ 0x090a ∷ []
  -- ---- the trace
  -- a period that both logs have, once
  pub periods_of_both : joined two_and_three two_and_three
      ≡ record { attempts1 = 0; attempts2 = 0 } ∷ record { attempts1 = 4; attempts2 = 4 } ∷ record { attempts1 = 8; attempts2 = 8 } ∷ []
  -- "log 1 being party 1's"; a period that both logs have, one that either alone has
  pub overlapping : joined_in 31 one_and_three two_and_three ≡ leaves (wide_record 1 0 ++ wide_record 0 4 ++ wide_record 2 8 ++ area 1) (head 0 3 0)
  -- exchanged
  pub exchanged : joined_in 31 two_and_three one_and_three ≡ leaves (wide_record 0 1 ++ wide_record 4 0 ++ wide_record 8 2 ++ area 1) (head 0 3 0)
  pub equal : joined_in 30 two_and_three two_and_three ≡ leaves (wide_record 0 0 ++ wide_record 4 4 ++ wide_record 8 8) (head 0 3 0)
  -- "reaches to the greater of the two last numbers", whichever log has it, and a period that neither has is there
  pub first_longer : joined_in 40 four (log_record 2 1) ≡ leaves (wide_record 0 0 ++ wide_record 0 1 ++ wide_record 0 0 ++ wide_record 16 0) (head 0 4 0)
  pub second_longer : joined_in 40 (log_record 2 1) four ≡ leaves (wide_record 0 0 ++ wide_record 1 0 ++ wide_record 0 0 ++ wide_record 0 16) (head 0 4 0)
  pub one_empty : joined_in 10 [] (log_record 1 7) ∷ joined_in 10 (log_record 1 7) [] ∷ []
      ≡ leaves (wide_record 0 7) (head 0 1 0) ∷ leaves (wide_record 7 0) (head 0 1 0) ∷ []
  -- a last record without attempts counts
  pub nothing_tried : joined_in 20 (log_record 1 1) (log_record 2 0) ≡ leaves (wide_record 1 0 ++ wide_record 0 0) (head 0 2 0)
  -- "two empty logs give an empty trace", also without a byte for it
  pub both_empty : joined_in 0 [] [] ∷ joined_in 2 [] [] ∷ [] ≡ leaves [] (head 0 0 0) ∷ leaves (area 2) (head 0 0 0) ∷ []
  -- four bytes of attempts for each party
  pub all_bytes : joined_in 10 (0x54 ∷ 0x4c ∷ 1 ∷ 0 ∷ 1 ∷ 2 ∷ 3 ∷ 0x84 ∷ []) (0x54 ∷ 0x4c ∷ 1 ∷ 0 ∷ 5 ∷ 6 ∷ 7 ∷ 0x88 ∷ [])
      ≡ leaves (0x54 ∷ 0x51 ∷ 1 ∷ 2 ∷ 3 ∷ 0x84 ∷ 5 ∷ 6 ∷ 7 ∷ 0x88 ∷ []) (head 0 1 0)
  -- ---- the tests
  -- 14: a length that is no multiple of 8; an empty log is good
  pub bad_lengths : map (λ (n : ℕ). number_and_place (length_test (take n (one_and_three ++ four)))) lengths
      ≡ ((0, 0) ∷ replicate 7 (14, 0)) ++ ((0, 0) ∷ replicate 7 (14, 0)) ++ ((0, 0) ∷ (14, 0) ∷ [])
  -- "over 65,535 records too"
  pub most_records : (log : List ℕ) → length log ≡ 8 * 65535 → length_test log ≡ Passed
  pub too_many_records : (log : List ℕ) → 8 * 65535 < length log → length_test log ≡ Refused BadLog 0
  -- in join, before anything else of that log, and at 0 for log 2 too
  pub too_many_in_1 : (log1 log2 trace : List ℕ) → 8 * 65535 < length log1 → join_test log1 log2 trace ≡ Refused BadLog 0
  pub too_many_in_2 : (log2 trace : List ℕ) → 8 * 65535 < length log2 → map (λ (log1 : List ℕ). join_test log1 log2 trace) ([] ∷ one_and_three ∷ falling ∷ []) ≡ replicate 3 (Refused BadLog 0)
  -- 14: "a wrong mark or period 0", the first record that has either; period 0x0100 is none
  pub bad_records :
      map (λ (l : List ℕ). number_and_place (log_test l 0))
      (other_log ∷ other_first ∷ period_zero ∷ (one_and_three ++ other_log) ∷ (four ++ period_zero ++ other_log) ∷ (four ++ other_first ++ period_zero) ∷ (0x54 ∷ 0x4c ∷ replicate 2 1 ++ replicate 4 0) ∷ (0x54 ∷ 0x4c ∷ 0 ∷ 1 ∷ replicate 4 0) ∷ [])
      ≡ (14, 0) ∷ (14, 0) ∷ (14, 0) ∷ (14, 2) ∷ (14, 1) ∷ (14, 1) ∷ (0, 0) ∷ (0, 0) ∷ []
  -- 15: "a number not above the one before it", equal or below, the first such record; 0x0100 is above 0x00ff
  pub bad_orders :
      map (λ (l : List ℕ). number_and_place (order_test l 0))
      ([] ∷ four ∷ one_and_three ∷ falling ∷ (four ++ four) ∷ (one_and_three ++ two_and_three) ∷ (log_record 0xff 1 ++ (0x54 ∷ 0x4c ∷ 0 ∷ 1 ∷ replicate 4 0)) ∷ ((0x54 ∷ 0x4c ∷ 0 ∷ 1 ∷ replicate 4 0) ++ log_record 0xff 1) ∷ [])
      ≡ (0, 0) ∷ (0, 0) ∷ (0, 0) ∷ (15, 1) ∷ (15, 1) ∷ (15, 2) ∷ (0, 0) ∷ (15, 1) ∷ []
  -- "The place is the record in its own log, with 65,536 added for log 2; it is 0 for a bad length"
  pub places_1 : tested other_log [] ∷ tested (four ++ period_zero) [] ∷ tested falling [] ∷ tested (0 ∷ []) [] ∷ [] ≡ (14, 0) ∷ (14, 1) ∷ (15, 1) ∷ (14, 0) ∷ []
  pub places_2 : tested [] other_log ∷ tested [] (four ++ period_zero) ∷ tested [] falling ∷ tested [] (0 ∷ []) ∷ []
      ≡ (14, 65536) ∷ (14, 65537) ∷ (15, 65537) ∷ (14, 0) ∷ []
  -- log 1 before log 2 within 14, and within 15
  pub log_1_first : tested (four ++ other_log) other_log ∷ tested (four ++ other_log) (0 ∷ []) ∷ tested (0 ∷ []) other_log ∷ tested falling (four ++ four) ∷ []
      ≡ (14, 1) ∷ (14, 1) ∷ (14, 0) ∷ (15, 1) ∷ []
  -- 14 of log 2 before 15 of log 1
  pub bad_log_first : tested falling (four ++ other_log) ∷ tested falling (0 ∷ []) ∷ tested (falling ++ other_log) [] ∷ tested [] (falling ++ other_log) ∷ []
      ≡ (14, 65537) ∷ (14, 0) ∷ (14, 2) ∷ (14, 65538) ∷ []
  -- "a log's length before its records"
  pub length_first : tested (four ++ other_log ++ (0 ∷ [])) [] ∷ tested [] (four ++ other_log ++ (0 ∷ [])) ∷ [] ≡ (14, 0) ∷ (14, 0) ∷ []
  -- 16 last, at 0; what the trace needs is 10 bytes for each record
  pub room : tested four falling ∷ tested four [] ∷ tested [] four ∷ tested [] one_and_three ∷ [] ≡ (15, 65537) ∷ (16, 0) ∷ (16, 0) ∷ (0, 0) ∷ []
  pub one_byte_short : map (λ (n : ℕ). number_and_place (join_test four one_and_three (area n))) (0 ∷ 39 ∷ 40 ∷ 41 ∷ []) ≡ (16, 0) ∷ (16, 0) ∷ (0, 0) ∷ (0, 0) ∷ []
  -- more periods than a byte counts: 257 of them
  pub long_room : map (λ (n : ℕ). number_and_place (join_test long_log [] (area n))) (2569 ∷ 2570 ∷ []) ≡ (16, 0) ∷ (0, 0) ∷ []
  pub long_reply : (join [] long_log (area 2570) (area 16)).reply ≡ 0 ∷ 0 ∷ 0 ∷ 0 ∷ 1 ∷ 1 ∷ 0 ∷ 0 ∷ 0 ∷ 0 ∷ 0 ∷ 0 ∷ 0 ∷ 0 ∷ 0 ∷ 0 ∷ []
  -- ---- replies
  -- a refusal writes the reply alone; the place has eight bytes
  pub refused : joined_in 30 falling one_and_three ∷ joined_in 29 one_and_three one_and_three ∷ [] ≡ leaves (area 30) (head 15 0 1) ∷ leaves (area 29) (head 16 0 0) ∷ []
  pub refused_2 : joined_in 30 one_and_three falling ≡ leaves (area 30) (15 ∷ 0 ∷ 0 ∷ 0 ∷ 0 ∷ 0 ∷ 0 ∷ 0 ∷ 1 ∷ 0 ∷ 1 ∷ 0 ∷ 0 ∷ 0 ∷ 0 ∷ 0 ∷ [])
  -- a reply of 16 bytes: with 15 nothing is written anywhere
  pub short_area : join one_and_three four (area 40) (area 15) ∷ join falling four (area 40) (area 15) ∷ [] ≡ replicate 2 (record { result = 0; buffers = area 40; reply = area 15 })
  pub full_area : (join [] four (area 40) (area 16)).result ≡ 1
