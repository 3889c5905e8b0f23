-- Vectors of the records, verdicts and replies. What is expected stands in numbers and bytes alone, from document 01's text.
use Rattle.std.specs.Prelude.{ℕ, true, false, List, [], ◌∷◌, ◌++◌, map, ◌≡◌, replicate}
use Rattle.records.specs.declared.Fault.TheVariants.{BadState}
use Rattle.records.specs.Fields.{bytes, field}
use Rattle.records.specs.Marks.{contract_mark, narrow_mark, wide_mark, log_mark, row_mark, end_mark, marked}
use Rattle.records.specs.declared.Verdict.TheVariants.{Open, Met, Broken, MetAfter, BrokenAfter}
use Rattle.records.specs.Verdicts.{since, verdict_number, verdict_name}
use Rattle.records.specs.Refusals.{Test, Passed, Refused, number_of, place_of}
use Rattle.records.specs.Replies.{four, After, head_of, call}

-- what a reply has of a test: number and place
abbrev pub number_and_place : Test → ℕ × ℕ
number_and_place t = (number_of t, place_of t)

-- an area of n bytes, before a call writes it
abbrev pub area : ℕ → List ℕ
area n = replicate n 0xff

-- a reply's first fields, of numbers below 256: number (4 bytes), the call's own (4), place (8)
abbrev pub head : (number own place : ℕ) → List ℕ
head number own place = number ∷ 0 ∷ 0 ∷ 0 ∷ own ∷ 0 ∷ 0 ∷ 0 ∷ place ∷ 0 ∷ 0 ∷ 0 ∷ 0 ∷ 0 ∷ 0 ∷ 0 ∷ []

-- a call that leaves these buffers and this reply, and the area's one byte past it as it was
abbrev pub leaves : {Buffers : Type 0} → (buffers : Buffers) (reply : List ℕ) → After Buffers
leaves buffers reply = record { result = 1; buffers = buffers; reply = reply ++ (0xff ∷ []) }

-- a call that answers 7 in its own field and 0x0102 behind the place, a reply of 20 bytes, with a buffer of one byte, 1 before and 2 later, and an
-- area of n bytes
abbrev pub call_with : Test → (n : ℕ) → After (List ℕ)
call_with t n = call t (record { own = 7; others = four 0x0102 ∷ [] }) (1 ∷ []) (2 ∷ []) (area n)

-- The faults' numbers are pinned by `fault_numbers` in proofs/Refusals.antt.
pub record RecordVectors : Type 0 where
  pub marks : contract_mark ∷ narrow_mark ∷ wide_mark ∷ log_mark ∷ row_mark ∷ end_mark ∷ []
      ≡ (0x54 ∷ 0x43 ∷ []) ∷ (0x54 ∷ 0x50 ∷ []) ∷ (0x54 ∷ 0x51 ∷ []) ∷ (0x54 ∷ 0x4c ∷ []) ∷ (0x54 ∷ 0x52 ∷ []) ∷ (0x54 ∷ 0x45 ∷ []) ∷ []
  -- both bytes of a mark count, from byte `at` on
  pub mark_bytes :
      map (λ (l : List ℕ). marked l 1 (0x54 ∷ 0x52 ∷ []))
      ((0 ∷ 0x54 ∷ 0x52 ∷ []) ∷ (0 ∷ 0x54 ∷ 0x53 ∷ []) ∷ (0 ∷ 0x55 ∷ 0x52 ∷ []) ∷ (0x54 ∷ 0x52 ∷ 0 ∷ []) ∷ [])
      ≡ true ∷ false ∷ false ∷ false ∷ []
  -- "Two- and four-byte fields have the low byte first."
  pub low_byte_first : bytes 2 0x0102 ∷ bytes 4 0x01020304 ∷ bytes 8 0x01020304 ∷ []
      ≡ (2 ∷ 1 ∷ []) ∷ (4 ∷ 3 ∷ 2 ∷ 1 ∷ []) ∷ (4 ∷ 3 ∷ 2 ∷ 1 ∷ 0 ∷ 0 ∷ 0 ∷ 0 ∷ []) ∷ []
  pub fields_read : map (field (9 ∷ 4 ∷ 3 ∷ 2 ∷ 1 ∷ 9 ∷ []) 1) (2 ∷ 4 ∷ []) ≡ 0x0304 ∷ 0x01020304 ∷ []
  -- "open (0)", "met (1) or broken (2)", "met-after (3) or broken-after (4)"
  pub verdict_numbers : map verdict_number (Open ∷ Met ∷ Broken ∷ MetAfter ∷ BrokenAfter ∷ []) ≡ 0 ∷ 1 ∷ 2 ∷ 3 ∷ 4 ∷ []
  pub verdict_names : map verdict_name (Open ∷ Met ∷ Broken ∷ MetAfter ∷ BrokenAfter ∷ [])
      ≡ "open" ∷ "met" ∷ "broken" ∷ "met-after" ∷ "broken-after" ∷ []
  -- of a decision at period 2, after one, two and three periods
  pub verdict_after : map (λ (n : ℕ). verdict_number (since 2 n Met MetAfter)) (1 ∷ 2 ∷ 3 ∷ []) ≡ 0 ∷ 1 ∷ 3 ∷ []
  -- "An accepted call gives number 0 and place 0."; the area's byte past the reply keeps its value
  pub accepted : call_with Passed 21 ≡ leaves (2 ∷ []) (head 0 7 0 ++ (2 ∷ 1 ∷ 0 ∷ 0 ∷ []))
  -- "A refusal gives its number and a place; every other field is 0 and every lent buffer but the reply's area is unchanged."
  pub refused : call_with (Refused BadState 3) 21 ≡ leaves (1 ∷ []) (head 10 0 3 ++ (0 ∷ 0 ∷ 0 ∷ 0 ∷ []))
  -- a place has eight bytes, low byte first
  pub place_bytes : (call_with (Refused BadState 0x0102030405060708) 20).reply
      ≡ 10 ∷ 0 ∷ 0 ∷ 0 ∷ 0 ∷ 0 ∷ 0 ∷ 0 ∷ 8 ∷ 7 ∷ 6 ∷ 5 ∷ 4 ∷ 3 ∷ 2 ∷ 1 ∷ 0 ∷ 0 ∷ 0 ∷ 0 ∷ []
  -- "If that area is too short for the reply, the call writes nothing anywhere"
  pub no_room : call_with Passed 3 ≡ record { result = 0; buffers = 1 ∷ []; reply = 0xff ∷ 0xff ∷ 0xff ∷ [] }
  pub room : map (λ (n : ℕ). (call_with Passed n).result) (19 ∷ 20 ∷ []) ≡ 0 ∷ 1 ∷ []
  -- number, own field and place of a reply's bytes
  pub head_read : head_of (10 ∷ 0 ∷ 0 ∷ 0 ∷ 7 ∷ 0 ∷ 0 ∷ 0 ∷ 3 ∷ 1 ∷ 0 ∷ 0 ∷ 0 ∷ 0 ∷ 0 ∷ 0 ∷ [])
      ≡ record { number = 10; own = 7; place = 0x0103 }
