-- Vectors of compile: its result, the image buffer and the reply, byte for byte. Document 01, "Calls" and "Replies that refuse"; document 02,
-- "Duties with a deadline" and "Duties that both parties own".
use Rattle.std.specs.Prelude.{ℕ, List, [], ◌∷◌, ◌++◌, map, ◌≡◌, take, replicate}
use Rattle.records.specs.Replies.{After}
use Rattle.records.specs.Examples.{area, head, leaves}
use Rattle.grammar.specs.Examples.{six, six_with, duty_bytes, repeat_bytes, when_bytes, any_bytes, star_bytes, joined}
use Rattle.compiler.specs.Calls.{compile}

-- compile with a buffer of three bytes, which is refused by 8 at the latest
abbrev pub refusal : List ℕ → After (List ℕ)
refusal contract = compile contract (area 3) (area 17)

-- compile with a buffer of n bytes
abbrev pub with_buffer : (n : ℕ) (contract : List ℕ) → After (List ℕ)
with_buffer n contract = compile contract (area n) (area 17)

-- the table's small inputs, 1 to 7
abbrev pub small_inputs : List (List ℕ)
small_inputs =
    (0x54 ∷ 0x43 ∷ 0x01 ∷ 0x01 ∷ 0x00 ∷ [])
    ∷ (0x54 ∷ 0x44 ∷ 0x01 ∷ 0x01 ∷ 0x00 ∷ 0x00 ∷ [])
    ∷ six 11 0 0
    ∷ six 1 4 0
    ∷ repeat_bytes
    ∷ any_bytes
    ∷ joined (any_bytes ∷ star_bytes ∷ duty_bytes ∷ when_bytes ∷ []) ∷ []

-- the image of a duty: eleven rows and the end record. Which rows an image has document 01 leaves open; these are ours.
abbrev pub duty_image : List ℕ
duty_image =
    0x54 ∷ 0x52 ∷ 0 ∷ 0 ∷ 0 ∷ 0 ∷ 0 ∷ 0
    ∷ 0x54 ∷ 0x52 ∷ 1 ∷ 0 ∷ 0 ∷ 0 ∷ 0 ∷ 0
    ∷ 0x54 ∷ 0x52 ∷ 3 ∷ 0 ∷ 1 ∷ 0 ∷ 0 ∷ 0
    ∷ 0x54 ∷ 0x52 ∷ 2 ∷ 0 ∷ 1 ∷ 0 ∷ 0 ∷ 0
    ∷ 0x54 ∷ 0x52 ∷ 2 ∷ 0 ∷ 2 ∷ 0 ∷ 0 ∷ 0
    ∷ 0x54 ∷ 0x52 ∷ 4 ∷ 0 ∷ 1 ∷ 0 ∷ 3 ∷ 0
    ∷ 0x54 ∷ 0x52 ∷ 4 ∷ 0 ∷ 5 ∷ 0 ∷ 4 ∷ 0
    ∷ 0x54 ∷ 0x52 ∷ 3 ∷ 0 ∷ 3 ∷ 0 ∷ 0 ∷ 0
    ∷ 0x54 ∷ 0x52 ∷ 4 ∷ 0 ∷ 1 ∷ 0 ∷ 7 ∷ 0
    ∷ 0x54 ∷ 0x52 ∷ 3 ∷ 0 ∷ 4 ∷ 0 ∷ 0 ∷ 0
    ∷ 0x54 ∷ 0x52 ∷ 4 ∷ 0 ∷ 5 ∷ 0 ∷ 9 ∷ 0
    ∷ 0x54 ∷ 0x45 ∷ 6 ∷ 0 ∷ 8 ∷ 0 ∷ 10 ∷ 0 ∷ []

-- the image of a duty that both parties own: it differs in the last row
abbrev pub joint_image : List ℕ
joint_image =
    take 80 duty_image
    ++ (0x54 ∷ 0x52 ∷ 4 ∷ 0 ∷ 1 ∷ 0 ∷ 9 ∷ 0
    ∷ 0x54 ∷ 0x45 ∷ 6 ∷ 0 ∷ 8 ∷ 0 ∷ 10 ∷ 0 ∷ [])

-- the image of a deadline of party 1 with window 2: eighteen rows and the end record
abbrev pub deadline_image : List ℕ
deadline_image =
    0x54 ∷ 0x52 ∷ 0 ∷ 0 ∷ 0 ∷ 0 ∷ 0 ∷ 0
    ∷ 0x54 ∷ 0x52 ∷ 1 ∷ 0 ∷ 0 ∷ 0 ∷ 0 ∷ 0
    ∷ 0x54 ∷ 0x52 ∷ 3 ∷ 0 ∷ 1 ∷ 0 ∷ 0 ∷ 0
    ∷ 0x54 ∷ 0x52 ∷ 2 ∷ 0 ∷ 1 ∷ 0 ∷ 0 ∷ 0
    ∷ 0x54 ∷ 0x52 ∷ 2 ∷ 0 ∷ 2 ∷ 0 ∷ 0 ∷ 0
    ∷ 0x54 ∷ 0x52 ∷ 4 ∷ 0 ∷ 3 ∷ 0 ∷ 4 ∷ 0
    ∷ 0x54 ∷ 0x52 ∷ 3 ∷ 0 ∷ 5 ∷ 0 ∷ 0 ∷ 0
    ∷ 0x54 ∷ 0x52 ∷ 4 ∷ 0 ∷ 2 ∷ 0 ∷ 6 ∷ 0
    ∷ 0x54 ∷ 0x52 ∷ 4 ∷ 0 ∷ 1 ∷ 0 ∷ 6 ∷ 0
    ∷ 0x54 ∷ 0x52 ∷ 6 ∷ 0 ∷ 8 ∷ 0 ∷ 0 ∷ 0
    ∷ 0x54 ∷ 0x52 ∷ 5 ∷ 0 ∷ 0 ∷ 0 ∷ 9 ∷ 0
    ∷ 0x54 ∷ 0x52 ∷ 4 ∷ 0 ∷ 7 ∷ 0 ∷ 9 ∷ 0
    ∷ 0x54 ∷ 0x52 ∷ 4 ∷ 0 ∷ 2 ∷ 0 ∷ 10 ∷ 0
    ∷ 0x54 ∷ 0x52 ∷ 5 ∷ 0 ∷ 1 ∷ 0 ∷ 12 ∷ 0
    ∷ 0x54 ∷ 0x52 ∷ 4 ∷ 0 ∷ 13 ∷ 0 ∷ 5 ∷ 0
    ∷ 0x54 ∷ 0x52 ∷ 3 ∷ 0 ∷ 3 ∷ 0 ∷ 0 ∷ 0
    ∷ 0x54 ∷ 0x52 ∷ 4 ∷ 0 ∷ 11 ∷ 0 ∷ 15 ∷ 0
    ∷ 0x54 ∷ 0x52 ∷ 4 ∷ 0 ∷ 11 ∷ 0 ∷ 3 ∷ 0
    ∷ 0x54 ∷ 0x45 ∷ 14 ∷ 0 ∷ 16 ∷ 0 ∷ 17 ∷ 0 ∷ []

pub record CompileVectors : Type 0 where
  -- "A buffer of 776 bytes takes one record"; the bytes beyond the image "keep their old values"
  pub taken : compile duty_bytes (area 776) (area 17) ≡ leaves (duty_image ++ area 680) (head 0 11 0)
  pub joint_taken : compile (six 1 3 0) (area 776) (area 17) ≡ leaves (joint_image ++ area 680) (head 0 11 0)
  -- the table's small inputs, 1 to 8: "every other field is 0 and every lent buffer but the reply's area is unchanged"
  pub small_inputs_lem :
      map refusal
      ((0x54 ∷ 0x43 ∷ 0x01 ∷ 0x01 ∷ 0x00 ∷ [])
      ∷ (0x54 ∷ 0x44 ∷ 0x01 ∷ 0x01 ∷ 0x00 ∷ 0x00 ∷ [])
      ∷ six 11 0 0
      ∷ six 1 4 0
      ∷ repeat_bytes
      ∷ any_bytes
      ∷ joined (any_bytes ∷ star_bytes ∷ duty_bytes ∷ when_bytes ∷ [])
      ∷ duty_bytes ∷ [])
      ≡ map (leaves (area 3))
      (head 1 0 0 ∷ head 2 0 0 ∷ head 3 0 0 ∷ head 4 0 0 ∷ head 5 0 0 ∷ head 6 0 1 ∷ head 7 0 3 ∷ head 8 0 0 ∷ [])
  -- also with room for the image of four records
  pub small_inputs_with_room :
      map (with_buffer 1544) small_inputs
      ≡ map (leaves (area 1544)) (head 1 0 0 ∷ head 2 0 0 ∷ head 3 0 0 ∷ head 4 0 0 ∷ head 5 0 0 ∷ head 6 0 1 ∷ head 7 0 3 ∷ [])
  -- 8: "under 8 × (32 × records + 65) bytes", 776 for one record and 1,032 for two
  pub short_for_one : compile duty_bytes (area 775) (area 17) ≡ leaves (area 775) (head 8 0 0)
  pub short_for_two : compile (duty_bytes ++ repeat_bytes) (area 1031) (area 17) ≡ leaves (area 1031) (head 8 0 0)
  pub enough_for_two : (compile (duty_bytes ++ repeat_bytes) (area 1032) (area 16)).reply ≡ head 0 16 0
  -- "4 rows for each period of each window" more: 840 bytes for one deadline of window 2, 1,832 for those of 2 and 15 under `both`
  pub deadline_taken : compile (six_with 10 1 0 2) (area 840) (area 17) ≡ leaves (deadline_image ++ area 688) (head 0 18 0)
  pub short_for_window : compile (six_with 10 1 0 2) (area 839) (area 17) ≡ leaves (area 839) (head 8 0 0)
  pub short_for_windows :
      map (λ b. (compile (joined (six_with 10 1 0 2 ∷ six_with 10 2 0 15 ∷ six 4 0 0 ∷ [])) (area b) (area 16)).reply) (1831 ∷ 1832 ∷ [])
      ≡ head 8 0 0 ∷ head 0 86 0 ∷ []
  -- the reply has 16 bytes. If the area is shorter, "the call writes nothing anywhere"
  pub room : (compile any_bytes [] (area 16)).result ≡ 1
  pub no_room : map (λ c. compile c (area 776) (area 15)) (duty_bytes ∷ any_bytes ∷ []) ≡ replicate 2 (record { result = 0; buffers = area 776; reply = area 15 })
