-- Vectors of the reader: a contract for each kind, its bytes and the clause that they spell; refusals 1 to 7, number and place, and their order.
-- Document 01, "Records" and "Replies that refuse"; of kind 10 document 02, "Duties with a deadline"; of party 3 document 02, "Duties
-- that both parties own".
use Rattle.std.specs.Prelude.{ℕ, List, [], ◌∷◌, ◌++◌, map, ◌≡◌, replicate}
use Rattle.records.specs.Examples.{number_and_place}
use Rattle.periods.specs.declared.Party.TheVariants.{One as party1, Two as party2}
use Rattle.contract.specs.Expressions.{any, tries, idle, succeeds, fails, atom, seq, or, star}
use Rattle.contract.specs.Meaning.{Clause, deadline, both, then, repair, repeat, when, until}
use Rattle.contract.specs.Examples.{duty, joint, ban, power}
use Rattle.grammar.specs.Spelling.{windows}
use Rattle.grammar.specs.Reader.{Result, taken, contract_windows, read, read_test}

-- a record's bytes
abbrev pub six_with : (kind party action last : ℕ) → List ℕ
six_with k p a z = 0x54 ∷ 0x43 ∷ k ∷ p ∷ a ∷ z ∷ []

-- the last being 0
abbrev pub six : (kind party action : ℕ) → List ℕ
six k p a = six_with k p a 0x00

-- the records that the vectors name
abbrev pub duty_bytes : List ℕ
duty_bytes = six 1 1 0

abbrev pub repeat_bytes : List ℕ
repeat_bytes = six 7 0 0

abbrev pub when_bytes : List ℕ
when_bytes = six 8 0 0

abbrev pub until_bytes : List ℕ
until_bytes = six 9 0 0

abbrev pub deadline_bytes : List ℕ
deadline_bytes = six_with 10 1 0 3

abbrev pub any_bytes : List ℕ
any_bytes = six 16 0 0

abbrev pub star_bytes : List ℕ
star_bytes = six 23 0 0

-- records one after the other, as a contract
abbrev pub joined : List (List ℕ) → List ℕ
joined [] = []
joined (r ∷ rs) = r ++ joined rs

abbrev pub reads : List (List ℕ) → Result Clause
reads rs = read (joined rs)

-- number and place of what is found; of a contract that is taken 0 and 0
abbrev pub found : List (List ℕ) → ℕ × ℕ
found rs = number_and_place (read_test (joined rs))

-- for each kind but 10 a contract that ends with it, its operands before it, and this last byte
abbrev pub last_bytes : ℕ → List (List (List ℕ))
last_bytes z =
    (six_with 1 1 0 z ∷ []) ∷ (six_with 2 1 0 z ∷ []) ∷ (six_with 3 1 0 z ∷ []) ∷ (duty_bytes ∷ duty_bytes ∷ six_with 4 0 0 z ∷ [])
    ∷ (duty_bytes ∷ duty_bytes ∷ six_with 5 0 0 z ∷ []) ∷ (duty_bytes ∷ duty_bytes ∷ six_with 6 0 0 z ∷ []) ∷ (duty_bytes ∷ six_with 7 0 0 z ∷ [])
    ∷ (any_bytes ∷ duty_bytes ∷ six_with 8 0 0 z ∷ []) ∷ (duty_bytes ∷ any_bytes ∷ six_with 9 0 0 z ∷ []) ∷ (six_with 16 0 0 z ∷ [])
    ∷ (six_with 17 1 0 z ∷ []) ∷ (six_with 18 1 0 z ∷ []) ∷ (six_with 19 0 0 z ∷ []) ∷ (six_with 20 0 0 z ∷ [])
    ∷ (any_bytes ∷ any_bytes ∷ six_with 21 0 0 z ∷ []) ∷ (any_bytes ∷ any_bytes ∷ six_with 22 0 0 z ∷ []) ∷ (any_bytes ∷ six_with 23 0 0 z ∷ []) ∷ []

pub record ReaderVectors : Type 0 where
  -- ---- kinds
  pub kinds_1_to_3 :
      map (λ r. reads (r ∷ [])) (six 1 1 0 ∷ six 1 2 31 ∷ six 2 1 31 ∷ six 2 2 16 ∷ six 3 1 31 ∷ six 3 2 1 ∷ [])
      ≡ map taken (duty party1 0 ∷ duty party2 31 ∷ ban party1 31 ∷ ban party2 16 ∷ power party1 31 ∷ power party2 1 ∷ [])
  pub party_3_of_duty :
      map (λ r. reads (r ∷ [])) (six 1 3 0 ∷ six 1 3 1 ∷ six 1 3 31 ∷ []) ≡ map taken (joint 0 ∷ joint 1 ∷ joint 31 ∷ [])
  pub kinds_4_to_6 :
      map (λ k. reads (six 1 1 0 ∷ six 2 2 1 ∷ six k 0 0 ∷ [])) (4 ∷ 5 ∷ 6 ∷ [])
      ≡ map taken (both (duty party1 0) (ban party2 1) ∷ then (duty party1 0) (ban party2 1) ∷ repair (duty party1 0) (ban party2 1) ∷ [])
  pub kind_7 : reads (six 1 1 0 ∷ six 7 0 0 ∷ []) ≡ taken (repeat (duty party1 0))
  pub kind_8 : reads (six 17 1 0 ∷ six 1 2 1 ∷ six 8 0 0 ∷ []) ≡ taken (when (atom (tries party1 0)) (duty party2 1))
  pub kind_9 : reads (six 1 2 1 ∷ six 17 1 0 ∷ six 9 0 0 ∷ []) ≡ taken (until (duty party2 1) (atom (tries party1 0)))
  pub kind_10 :
      map (λ r. reads (r ∷ []))
      (six_with 10 1 0 1 ∷ six_with 10 2 31 1 ∷ six_with 10 1 31 3 ∷ six_with 10 2 0 3 ∷ six_with 10 1 2 15 ∷ six_with 10 2 31 15 ∷ [])
      ≡ map taken
      (deadline party1 0 1 ∷ deadline party2 31 1 ∷ deadline party1 31 3 ∷ deadline party2 0 3 ∷ deadline party1 2 15 ∷ deadline party2 31 15 ∷ [])
  pub under_4_to_6 :
      map (λ k. reads (deadline_bytes ∷ duty_bytes ∷ six k 0 0 ∷ [])) (4 ∷ 5 ∷ 6 ∷ [])
      ≡ map taken
      (both (deadline party1 0 3) (duty party1 0) ∷ then (deadline party1 0 3) (duty party1 0) ∷ repair (deadline party1 0 3) (duty party1 0) ∷ [])
  pub under_7_to_9 :
      map reads
      ((deadline_bytes ∷ repeat_bytes ∷ []) ∷ (any_bytes ∷ deadline_bytes ∷ when_bytes ∷ []) ∷ (deadline_bytes ∷ any_bytes ∷ until_bytes ∷ []) ∷ [])
      ≡ map taken (repeat (deadline party1 0 3) ∷ when (atom any) (deadline party1 0 3) ∷ until (deadline party1 0 3) (atom any) ∷ [])
  pub joint_under_4_to_6 :
      map (λ k. reads (six 1 3 0 ∷ six 1 3 1 ∷ six k 0 0 ∷ [])) (4 ∷ 5 ∷ 6 ∷ [])
      ≡ map taken (both (joint 0) (joint 1) ∷ then (joint 0) (joint 1) ∷ repair (joint 0) (joint 1) ∷ [])
  pub joint_under_7_to_9 :
      map reads ((six 1 3 0 ∷ repeat_bytes ∷ []) ∷ (any_bytes ∷ six 1 3 0 ∷ when_bytes ∷ []) ∷ (six 1 3 0 ∷ any_bytes ∷ until_bytes ∷ []) ∷ [])
      ≡ map taken (repeat (joint 0) ∷ when (atom any) (joint 0) ∷ until (joint 0) (atom any) ∷ [])
  pub kinds_16_to_20 :
      map (λ r. reads (r ∷ duty_bytes ∷ when_bytes ∷ []))
      (six 16 0 0 ∷ six 17 1 31 ∷ six 17 2 0 ∷ six 18 1 31 ∷ six 18 2 0 ∷ six 19 0 31 ∷ six 20 0 31 ∷ [])
      ≡ map (λ x. taken (when (atom x) (duty party1 0)))
      (any ∷ tries party1 31 ∷ tries party2 0 ∷ idle party1 31 ∷ idle party2 0 ∷ succeeds 31 ∷ fails 31 ∷ [])
  pub kinds_21_to_22 :
      map (λ k. reads (six 17 1 0 ∷ six 18 2 1 ∷ six k 0 0 ∷ duty_bytes ∷ when_bytes ∷ [])) (21 ∷ 22 ∷ [])
      ≡ map (λ e. taken (when e (duty party1 0)))
      (seq (atom (tries party1 0)) (atom (idle party2 1)) ∷ or (atom (tries party1 0)) (atom (idle party2 1)) ∷ [])
  pub kind_23 :
      reads (any_bytes ∷ six 23 0 0 ∷ six 17 1 0 ∷ six 21 0 0 ∷ duty_bytes ∷ when_bytes ∷ [])
      ≡ taken (when (seq (star (atom any)) (atom (tries party1 0))) (duty party1 0))
  -- ---- the sum of all windows: without a deadline, of one, of two alike, of two beside a duty, of one under `when` and `until`
  pub windows_of_bytes :
      map (λ rs. contract_windows (joined rs))
      ((duty_bytes ∷ repeat_bytes ∷ []) ∷ (six_with 10 2 7 1 ∷ []) ∷ (deadline_bytes ∷ deadline_bytes ∷ six 5 0 0 ∷ [])
      ∷ (deadline_bytes ∷ six_with 10 2 1 15 ∷ six 4 0 0 ∷ six 1 1 7 ∷ six 4 0 0 ∷ [])
      ∷ (any_bytes ∷ six_with 10 1 0 15 ∷ when_bytes ∷ six 17 2 9 ∷ until_bytes ∷ []) ∷ [])
      ≡ 0 ∷ 1 ∷ 6 ∷ 18 ∷ 15 ∷ []
  pub windows_of_clauses :
      map windows
      (repeat (duty party1 0) ∷ deadline party2 7 1 ∷ then (deadline party1 0 3) (deadline party1 0 3)
      ∷ both (both (deadline party1 0 3) (deadline party2 1 15)) (duty party1 7)
      ∷ until (when (atom any) (deadline party1 0 15)) (atom (tries party2 9)) ∷ [])
      ≡ 0 ∷ 1 ∷ 6 ∷ 18 ∷ 15 ∷ []
  -- ---- 1: "contract empty, not a multiple of 6 bytes, or over 64 records; 0". 64 are taken
  pub lengths :
      map found ([] ∷ ((0x54 ∷ 0x43 ∷ 0x01 ∷ 0x01 ∷ 0x00 ∷ []) ∷ []) ∷ (duty_bytes ∷ (0x54 ∷ []) ∷ []) ∷ [])
      ≡ (1, 0) ∷ (1, 0) ∷ (1, 0) ∷ []
  pub most_records : found (duty_bytes ∷ replicate 63 repeat_bytes) ≡ (0, 0)
  pub too_many_records : found (duty_bytes ∷ replicate 64 repeat_bytes) ≡ (1, 0)
  -- ---- 2: "wrong contract mark"
  pub marks :
      map found
      (((0x54 ∷ 0x44 ∷ 0x01 ∷ 0x01 ∷ 0x00 ∷ 0x00 ∷ []) ∷ [])
      ∷ ((0x53 ∷ 0x43 ∷ 0x01 ∷ 0x01 ∷ 0x00 ∷ 0x00 ∷ []) ∷ [])
      ∷ (duty_bytes ∷ (0x54 ∷ 0x52 ∷ 0x07 ∷ 0x00 ∷ 0x00 ∷ 0x00 ∷ []) ∷ []) ∷ [])
      ≡ (2, 0) ∷ (2, 0) ∷ (2, 1) ∷ []
  -- ---- 3: "unknown kind"
  pub unknown_kinds :
      map (λ k. found (duty_bytes ∷ six k 0 0 ∷ [])) (0 ∷ 11 ∷ 12 ∷ 13 ∷ 14 ∷ 15 ∷ 24 ∷ 255 ∷ []) ≡ replicate 8 (3, 1)
  pub kind_11 : found (six_with 11 1 0 3 ∷ []) ≡ (3, 0)
  -- ---- 4: "a field out of range, or an unused one not 0"
  pub party_0 : map (λ k. found (six k 0 0 ∷ [])) (1 ∷ 2 ∷ 3 ∷ 17 ∷ 18 ∷ []) ≡ replicate 5 (4, 0)
  pub party_3 : map (λ k. found (six k 3 0 ∷ [])) (1 ∷ 2 ∷ 3 ∷ 17 ∷ 18 ∷ []) ≡ (0, 0) ∷ replicate 4 (4, 0)
  pub party_4 : map (λ k. found (six k 4 0 ∷ [])) (1 ∷ 2 ∷ 3 ∷ 17 ∷ 18 ∷ []) ≡ replicate 5 (4, 0)
  pub duty_parties : map (λ p. found (six 1 p 0 ∷ [])) (1 ∷ 2 ∷ 3 ∷ 5 ∷ 7 ∷ 255 ∷ []) ≡ replicate 3 (0, 0) ++ replicate 3 (4, 0)
  pub party_3_of_second :
      map (λ r. found (six 1 3 0 ∷ r ∷ [])) (six 2 3 0 ∷ six 3 3 0 ∷ six_with 10 3 0 1 ∷ six 17 3 0 ∷ six 18 3 0 ∷ []) ≡ replicate 5 (4, 1)
  pub fields_of_joint : map (λ r. found (r ∷ [])) (six 1 3 32 ∷ six_with 1 3 0 1 ∷ six_with 1 3 0 3 ∷ []) ≡ replicate 3 (4, 0)
  pub action_32 :
      map (λ r. found (r ∷ [])) (six 1 1 32 ∷ six 2 1 32 ∷ six 3 1 32 ∷ six 17 1 32 ∷ six 18 1 32 ∷ six 19 0 32 ∷ six 20 0 32 ∷ [])
      ≡ replicate 7 (4, 0)
  pub unused_party :
      map (λ p. map (λ k. found (six k p 0 ∷ [])) (4 ∷ 5 ∷ 6 ∷ 7 ∷ 8 ∷ 9 ∷ 16 ∷ 19 ∷ 20 ∷ 21 ∷ 22 ∷ 23 ∷ [])) (1 ∷ 3 ∷ [])
      ≡ replicate 2 (replicate 12 (4, 0))
  pub unused_action : map (λ k. found (six k 0 1 ∷ [])) (4 ∷ 5 ∷ 6 ∷ 7 ∷ 8 ∷ 9 ∷ 16 ∷ 21 ∷ 22 ∷ 23 ∷ []) ≡ replicate 10 (4, 0)
  pub last_byte :
      map (λ z. map found (last_bytes z)) (1 ∷ 15 ∷ 255 ∷ [])
      ≡ replicate 3 (map (λ k. (4, k)) (0 ∷ 0 ∷ 0 ∷ 2 ∷ 2 ∷ 2 ∷ 1 ∷ 2 ∷ 2 ∷ 0 ∷ 0 ∷ 0 ∷ 0 ∷ 0 ∷ 2 ∷ 2 ∷ 1 ∷ []))
  pub last_byte_0 : map found (last_bytes 0) ≡ replicate 9 (0, 0) ++ replicate 5 (6, 1) ++ ((6, 3) ∷ (6, 3) ∷ (6, 2) ∷ [])
  pub window :
      map (λ d. found (six_with 10 1 0 d ∷ [])) (0 ∷ 1 ∷ 15 ∷ 16 ∷ 17 ∷ 255 ∷ []) ≡ (4, 0) ∷ (0, 0) ∷ (0, 0) ∷ replicate 3 (4, 0)
  pub fields_of_deadline : map (λ r. found (r ∷ [])) (six_with 10 0 0 1 ∷ six_with 10 3 0 1 ∷ six_with 10 4 0 1 ∷ six_with 10 1 32 1 ∷ []) ≡ replicate 4 (4, 0)
  pub field_of_second : found (duty_bytes ∷ six 1 4 0 ∷ []) ≡ (4, 1)
  -- ---- 5: "operands missing or of the wrong sort"
  pub missing_operands :
      map (λ k. found (six k 0 0 ∷ [])) (4 ∷ 5 ∷ 6 ∷ 7 ∷ 8 ∷ 9 ∷ 21 ∷ 22 ∷ 23 ∷ []) ≡ replicate 9 (5, 0)
  pub missing_second :
      map (λ k. found (duty_bytes ∷ six k 0 0 ∷ [])) (4 ∷ 5 ∷ 6 ∷ 8 ∷ 9 ∷ []) ++ map (λ k. found (any_bytes ∷ six k 0 0 ∷ [])) (8 ∷ 9 ∷ 21 ∷ 22 ∷ [])
      ≡ replicate 9 (5, 1)
  pub wrong_sort :
      map (λ k. found (duty_bytes ∷ any_bytes ∷ six k 0 0 ∷ [])) (4 ∷ 5 ∷ 6 ∷ 7 ∷ 8 ∷ 21 ∷ 22 ∷ [])
      ++ map (λ k. found (any_bytes ∷ duty_bytes ∷ six k 0 0 ∷ [])) (4 ∷ 5 ∷ 6 ∷ 9 ∷ 21 ∷ 22 ∷ 23 ∷ [])
      ≡ replicate 14 (5, 2)
  -- ---- 6: "at the end not just one clause; record count"
  pub not_one_clause :
      map found
      ((any_bytes ∷ []) ∷ (duty_bytes ∷ duty_bytes ∷ []) ∷ (duty_bytes ∷ any_bytes ∷ []) ∷ (any_bytes ∷ duty_bytes ∷ [])
      ∷ (duty_bytes ∷ repeat_bytes ∷ duty_bytes ∷ []) ∷ [])
      ≡ (6, 1) ∷ (6, 2) ∷ (6, 2) ∷ (6, 2) ∷ (6, 3) ∷ []
  -- ---- document 02, "A byte for pending operands": as many as there are records, 64 at most; 63 of which two are joined; 32 that are all joined,
  -- and joined once too often
  pub most_pending :
      map found
      (replicate 64 duty_bytes ∷ replicate 64 any_bytes ∷ (replicate 63 duty_bytes ++ (six 4 0 0 ∷ []))
      ∷ (replicate 32 duty_bytes ++ replicate 31 (six 4 0 0)) ∷ (replicate 32 duty_bytes ++ replicate 32 (six 4 0 0)) ∷ [])
      ≡ (6, 64) ∷ (6, 64) ∷ (6, 64) ∷ (0, 0) ∷ (5, 63) ∷ []
  -- ---- 7: "expression under when or until holds the empty list"
  pub empty_list :
      map found
      ((any_bytes ∷ star_bytes ∷ duty_bytes ∷ when_bytes ∷ []) ∷ (duty_bytes ∷ any_bytes ∷ star_bytes ∷ until_bytes ∷ []) ∷ [])
      ≡ (7, 3) ∷ (7, 3) ∷ []
  -- an `or` holds it where either operand does, a `seq` where both do
  pub empty_list_of_or :
      map (λ rs. found (rs ++ (six 22 0 0 ∷ duty_bytes ∷ when_bytes ∷ [])))
      ((any_bytes ∷ star_bytes ∷ six 17 1 0 ∷ []) ∷ (six 17 1 0 ∷ any_bytes ∷ star_bytes ∷ []) ∷ [])
      ≡ (7, 5) ∷ (7, 5) ∷ []
  pub empty_list_of_seq :
      map (λ rs. found (duty_bytes ∷ rs ++ (six 21 0 0 ∷ until_bytes ∷ [])))
      ((any_bytes ∷ star_bytes ∷ any_bytes ∷ star_bytes ∷ []) ∷ (any_bytes ∷ star_bytes ∷ six 17 1 0 ∷ []) ∷ (six 17 1 0 ∷ any_bytes ∷ star_bytes ∷ []) ∷ [])
      ≡ (7, 6) ∷ (0, 0) ∷ (0, 0) ∷ []
  -- ---- "for each record 2, 3, 4, 5, 7, then 6"
  pub one_before_two : found ((0x54 ∷ 0x44 ∷ 0x01 ∷ 0x01 ∷ 0x00 ∷ 0x00 ∷ []) ∷ (0x54 ∷ []) ∷ []) ≡ (1, 0)
  pub two_before_three : found ((0x54 ∷ 0x44 ∷ 0x0b ∷ 0x00 ∷ 0x00 ∷ 0x00 ∷ []) ∷ []) ≡ (2, 0)
  pub three_before_four : found (six 11 4 32 ∷ []) ≡ (3, 0)
  pub four_before_five : found (six 7 1 0 ∷ []) ≡ (4, 0)
  pub four_before_seven : found (any_bytes ∷ star_bytes ∷ duty_bytes ∷ six 8 1 0 ∷ []) ≡ (4, 3)
  pub five_before_seven : found (any_bytes ∷ star_bytes ∷ any_bytes ∷ when_bytes ∷ []) ≡ (5, 3)
  pub seven_before_six : found (duty_bytes ∷ any_bytes ∷ star_bytes ∷ duty_bytes ∷ when_bytes ∷ []) ≡ (7, 4)
  pub first_record_first :
      map found
      ((six 7 0 0 ∷ (0x54 ∷ 0x44 ∷ 0x01 ∷ 0x01 ∷ 0x00 ∷ 0x00 ∷ []) ∷ []) ∷ (six 1 4 0 ∷ six 11 0 0 ∷ [])
      ∷ (any_bytes ∷ star_bytes ∷ duty_bytes ∷ when_bytes ∷ six 7 0 0 ∷ six 11 0 0 ∷ []) ∷ (duty_bytes ∷ duty_bytes ∷ six 11 0 0 ∷ []) ∷ [])
      ≡ (5, 0) ∷ (4, 0) ∷ (7, 3) ∷ (3, 2) ∷ []
