-- Vectors of states and of refusals 10 and 12. What is expected stands in numbers and bytes alone, from document 01's text.
use Rattle.std.specs.Prelude.{ℕ, List, [], ◌∷◌, map, ◌≡◌, replicate}
use Rattle.records.specs.Verdicts.{verdict_number}
use Rattle.records.specs.Examples.{number_and_place}
use Rattle.states.specs.States.{state_of, state_bytes, fresh_bytes}
use Rattle.states.specs.Verdicts.{verdict}
use Rattle.states.specs.Refusals.{state_length_test, state_test, count_test}

-- a state's bytes, of numbers below 256: "outcome; blame; periods taken (4 bytes); decision period (4 bytes); each row's last value"
abbrev pub state : (outcome blame periods decision : ℕ) → (values : List ℕ) → List ℕ
state o b n k values = o ∷ b ∷ n ∷ 0 ∷ 0 ∷ 0 ∷ k ∷ 0 ∷ 0 ∷ 0 ∷ values

-- undecided, with these four bytes of periods taken
abbrev pub taken : (b0 b1 b2 b3 : ℕ) → List ℕ
taken b0 b1 b2 b3 = 0 ∷ 0 ∷ b0 ∷ b1 ∷ b2 ∷ b3 ∷ 0 ∷ 0 ∷ 0 ∷ 0 ∷ []

-- what 10 finds, in step and run, of states for an image of two rows
abbrev pub of_states : List (List ℕ) → List (ℕ × ℕ)
of_states states = map (λ (l : List ℕ). number_and_place (state_test 2 l)) states

-- what 12 finds of more records for a state
abbrev pub of_counts : List ℕ → (more : List ℕ) → List (ℕ × ℕ)
of_counts l more = map (λ (n : ℕ). number_and_place (count_test (state_of l).periods n)) more

-- Each unsound state below fails by its own condition alone.
pub record StateVectors : Type 0 where
  pub written : state_bytes (record { outcome = 2; blame = 3; periods = 0x01020304; decision = 0x05060708; values = 0 ∷ 1 ∷ [] })
      ≡ 2 ∷ 3 ∷ 4 ∷ 3 ∷ 2 ∷ 1 ∷ 8 ∷ 7 ∷ 6 ∷ 5 ∷ 0 ∷ 1 ∷ []
  pub read : state_of (2 ∷ 3 ∷ 4 ∷ 3 ∷ 2 ∷ 1 ∷ 8 ∷ 7 ∷ 6 ∷ 5 ∷ 0 ∷ 1 ∷ [])
      ≡ record { outcome = 2; blame = 3; periods = 0x01020304; decision = 0x05060708; values = 0 ∷ 1 ∷ [] }
  -- 10 + rows zeros
  pub fresh : map fresh_bytes (0 ∷ 2 ∷ []) ≡ replicate 10 0 ∷ replicate 12 0 ∷ []
  -- 10 + rows bytes
  pub lengths : map (λ (n : ℕ). number_and_place (state_test 2 (replicate n 0))) (0 ∷ 11 ∷ 12 ∷ 13 ∷ []) ≡ (10, 0) ∷ (10, 0) ∷ (0, 0) ∷ (10, 0) ∷ []
  -- which is all that begin asks
  pub lengths_alone : map (λ (n : ℕ). number_and_place (state_length_test 2 (replicate n 9))) (0 ∷ 11 ∷ 12 ∷ 13 ∷ [])
      ≡ (10, 0) ∷ (10, 0) ∷ (0, 0) ∷ (10, 0) ∷ []
  -- "outcome is at most 2"; the table's small input
  pub outcomes : of_states (state 0 0 3 0 (0 ∷ 1 ∷ []) ∷ state 1 0 3 2 (0 ∷ 1 ∷ []) ∷ state 2 1 3 2 (0 ∷ 1 ∷ []) ∷ state 3 0 3 2 (0 ∷ 1 ∷ []) ∷ [])
      ≡ (0, 0) ∷ (0, 0) ∷ (0, 0) ∷ (10, 0) ∷ []
  -- "row values are 0 or 1"
  pub values : of_states (state 0 0 3 0 (1 ∷ 1 ∷ []) ∷ state 0 0 3 0 (2 ∷ 0 ∷ []) ∷ state 0 0 3 0 (0 ∷ 2 ∷ []) ∷ []) ≡ (0, 0) ∷ (10, 0) ∷ (10, 0) ∷ []
  -- also once it is decided
  pub decided_values : of_states (state 1 0 3 2 (1 ∷ 1 ∷ []) ∷ state 1 0 3 2 (2 ∷ 0 ∷ []) ∷ state 1 0 3 2 (0 ∷ 2 ∷ []) ∷ state 2 1 3 2 (2 ∷ 0 ∷ []) ∷ state 2 3 3 3 (0 ∷ 2 ∷ []) ∷ [])
      ≡ (0, 0) ∷ (10, 0) ∷ (10, 0) ∷ (10, 0) ∷ (10, 0) ∷ []
  -- "blame is 1 to 3 exactly for outcome 2 and else 0"
  pub blames_of_2 :
      of_states (map (λ (b : ℕ). state 2 b 3 2 (0 ∷ 1 ∷ [])) (0 ∷ 1 ∷ 2 ∷ 3 ∷ 4 ∷ []))
      ≡ (10, 0) ∷ (0, 0) ∷ (0, 0) ∷ (0, 0) ∷ (10, 0) ∷ []
  pub blames_of_others : of_states (state 0 1 3 0 (0 ∷ 1 ∷ []) ∷ state 1 1 3 2 (0 ∷ 1 ∷ []) ∷ []) ≡ (10, 0) ∷ (10, 0) ∷ []
  -- "decision is 0 exactly for outcome 0"
  pub decisions : of_states (state 0 0 3 2 (0 ∷ 1 ∷ []) ∷ state 1 0 3 0 (0 ∷ 1 ∷ []) ∷ state 2 1 3 0 (0 ∷ 1 ∷ []) ∷ [])
      ≡ (10, 0) ∷ (10, 0) ∷ (10, 0) ∷ []
  -- "and never above periods taken": at the last period, and above
  pub decided_by_now :
      of_states (state 1 0 3 3 (0 ∷ 1 ∷ []) ∷ state 2 1 3 3 (0 ∷ 1 ∷ []) ∷ state 1 0 3 4 (0 ∷ 1 ∷ []) ∷ state 2 1 3 4 (0 ∷ 1 ∷ []) ∷ [])
      ≡ (0, 0) ∷ (0, 0) ∷ (10, 0) ∷ (10, 0) ∷ []
  -- "and all is 0 when none are taken"
  pub none_taken : of_states (state 0 0 0 0 (0 ∷ 0 ∷ []) ∷ state 0 0 0 0 (0 ∷ 1 ∷ []) ∷ []) ≡ (0, 0) ∷ (10, 0) ∷ []
  -- open; met and broken in the decision period; met-after and broken-after later
  pub verdicts :
      map (λ (l : List ℕ). verdict_number (verdict (state_of l)))
      (state 0 0 2 0 [] ∷ state 1 0 2 2 [] ∷ state 2 1 2 2 [] ∷ state 1 0 3 2 [] ∷ state 2 1 3 2 [] ∷ [])
      ≡ 0 ∷ 1 ∷ 2 ∷ 3 ∷ 4 ∷ []
  -- "periods taken would pass 4,294,967,295; first record too many": one before it, and at it
  pub one_left : of_counts (taken 254 255 255 255) (0 ∷ 1 ∷ 2 ∷ 3 ∷ []) ≡ (0, 0) ∷ (0, 0) ∷ (12, 1) ∷ (12, 1) ∷ []
  pub none_left : of_counts (taken 255 255 255 255) (0 ∷ 1 ∷ 2 ∷ []) ≡ (0, 0) ∷ (12, 0) ∷ (12, 0) ∷ []
  -- as many records as a fresh state can take, and one more
  pub most_records : map (λ (n : ℕ). number_and_place (count_test 0 n)) (4294967295 ∷ 4294967296 ∷ []) ≡ (0, 0) ∷ (12, 4294967295) ∷ []
