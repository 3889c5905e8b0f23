-- A state whose rows' bytes hold two values each, and the state that it stands for.
use Prim.Native.Nat.{ℕ, zero, suc, ◌+◌, ◌-◌, ◌%◌, ◌≤◌, ◌<◌}
use native.Mathlib.Nat.{mod-eq_of_lt, le_refl}
use native.Mathlib.Omega.{arith}
use mathlib.Core.Bool.{true, and-eq-true_iff}
use mathlib.Core.List.{List, [], ◌∷◌, ◌++◌, map, append-nil}
use mathlib.Core.Path.{◌≡◌, refl, sym, ap, ◌∙◌}
use borrow.Author.Tests.{leb-true}
use borrow.Rule.Slice.PartMut.{put_mid}
use lib.Dec.{leb}
use lib.ListN.{length, get_or, set, take, drop, length-append, length-drop, length-map, take-append-drop, drop_of_length-le, get_or-append}
use lib.Seq.{take-append-le, take-take, get_or-take, drop_at, length-take-le}
use Rattle.records.specs.Fields.{value, bytes, field}
use Rattle.records.proofs.Written.{part_is, part_rest}
use Rattle.states.specs.Limits.{head_bytes}
use Rattle.states.specs.States.{State, state_of, state_bytes, all_at_most}
use Rattle.states.specs.Refusals.{state_test}
use Rattle.states.proofs.Refusals.{state_passed}
use Rattle.states.proofs.Soundness.{Sound, sound_facts, values≤}
use Rattle.machine.specs.Computing.{first_bits, trimmed}
use Rattle.records.specs.Refusals.{Passed}

-- ---- a function put to a list's first k elements, one after the other

abbrev pub map_first : (ℕ → ℕ) → ℕ → List ℕ → List ℕ
map_first f zero d = d
map_first f (suc k) [] = []
map_first f (suc k) (v ∷ d) = f v ∷ map_first f k d

module _ (f : ℕ → ℕ) where
  pub map_first_next : (k : ℕ) (d : List ℕ) → set (map_first f k d) k (f (get_or (map_first f k d) k 0)) ≡ map_first f (suc k) d
  map_first_next zero [] = refl
  map_first_next zero (v ∷ d) = refl
  map_first_next (suc k) [] = refl
  map_first_next (suc k) (v ∷ d) = ap (λ (l : List ℕ). f v ∷ l) (map_first_next k d)

  pub map_first_all : (d : List ℕ) → map_first f (length d) d ≡ map f d
  map_first_all [] = refl
  map_first_all (v ∷ d) = ap (λ (l : List ℕ). f v ∷ l) (map_first_all d)

-- ---- the first bits alone

pub length-first_bits : (l : List ℕ) → length (first_bits l) ≡ length l
unfolding first_bits
length-first_bits l = length-map l (λ (v : ℕ). v % 2)

pub length-trimmed : (l : List ℕ) → length (trimmed l) ≡ length l
unfolding trimmed
length-trimmed l = length-append (take head_bytes l) (first_bits (drop head_bytes l)) ∙ ap (λ (n : ℕ). length (take head_bytes l) + n) (length-first_bits (drop head_bytes l))
    ∙ sym (length-append (take head_bytes l) (drop head_bytes l)) ∙ ap length (take-append-drop head_bytes l)

-- a part up to the end, put back
pub put_rest : (n : ℕ) (l vs : List ℕ) → put_mid n (length l - n) l vs ≡ take n l ++ vs
put_rest n l vs =
    ap (λ (r : List ℕ). take n l ++ (vs ++ r)) (drop_of_length-le (drop n l) {i = length l - n} (simp length-drop (le_refl (length l - n))))
    ∙ ap (λ (r : List ℕ). take n l ++ r) (append-nil vs)

-- the rows' part has a byte for each row
pub in_rest : (l : List ℕ) {n x : ℕ} → length l ≡ head_bytes + n → x < n → x < length (take (length l - head_bytes) (drop head_bytes l))
in_rest l e h = rw (part_rest head_bytes l, length-drop) (omega arith)

-- the rows' part with its first bits alone
pub trimmed_put : (l vs : List ℕ) → vs ≡ first_bits (take (length l - head_bytes) (drop head_bytes l)) → put_mid head_bytes (length l - head_bytes) l vs ≡ trimmed l
unfolding trimmed
trimmed_put l vs e = put_rest head_bytes l vs ∙ ap (λ (r : List ℕ). take head_bytes l ++ r) (e ∙ ap first_bits (part_rest head_bytes l))

-- ---- a state that passes its test stands for itself

pub state_sound : (n : ℕ) (l : List ℕ) → state_test n l ≡ Passed → Sound n (state_of l)
unfolding state_of
state_sound n l h =
    let b = state_passed n l h in
    sound_facts n (state_of l) b.1 (length-drop head_bytes l ∙ rw b.0 (omega arith))

first_bits_plain : (l : List ℕ) → all_at_most 1 l ≡ true → first_bits l ≡ l
unfolding first_bits all_at_most
first_bits_plain [] h = refl
first_bits_plain (v ∷ l) h =
    let b = (and-eq-true_iff (leb v 1) (all_at_most 1 l)).0 h in
    let k : v < 2 = omega (arith, leb-true v 1 b.0) in
    rw (mod-eq_of_lt k, first_bits_plain l b.1)

module _ (n : ℕ) (l : List ℕ) (h : state_test n l ≡ Passed) where
  values_small : all_at_most 1 (drop head_bytes l) ≡ true
  unfolding state_of
  values_small = values≤ n (state_of l) (state_sound n l h)

  pub trimmed_plain : trimmed l ≡ l
  unfolding trimmed
  trimmed_plain = rw (first_bits_plain (drop head_bytes l) values_small) (take-append-drop head_bytes l)

-- ---- the state that bytes stand for

-- a state with the first bits of its row values alone
abbrev pub plain : State → State
plain s = record { outcome = s.outcome; blame = s.blame; periods = s.periods; decision = s.decision; values = first_bits s.values }

pub trimmed-bytes : (s : State) → trimmed (state_bytes s) ≡ state_bytes (plain s)
unfolding trimmed state_bytes bytes
trimmed-bytes s = refl

-- in the head the bytes are as they were
module _ (l : List ℕ) (h : head_bytes ≤ length l) where
  abbrev rest : List ℕ
  rest = first_bits (drop head_bytes l)

  head_long : length (take head_bytes l) ≡ head_bytes
  head_long = length-take-le head_bytes l h

  pub trimmed_at : (i : ℕ) → i < head_bytes → get_or (trimmed l) i 0 ≡ get_or l i 0
  unfolding trimmed
  trimmed_at i k = get_or-append (take head_bytes l) rest 0 i (rw head_long k) ∙ get_or-take head_bytes l i 0 k

  trimmed-field : (at w : ℕ) → at + w ≤ head_bytes → field (trimmed l) at w ≡ field l at w
  unfolding trimmed field
  trimmed-field at w k =
      ap value (sym (part_is at w (take head_bytes l ++ rest))
      ∙ ap (drop at) (take-append-le (at + w) (take head_bytes l) rest (rw head_long k) ∙ take-take (at + w) head_bytes l k) ∙ part_is at w l)

  trimmed_rest : drop head_bytes (trimmed l) ≡ rest
  unfolding trimmed
  trimmed_rest = drop_at (take head_bytes l) rest head_bytes head_long

  pub trimmed_state : state_of (trimmed l) ≡ plain (state_of l)
  unfolding state_of
  trimmed_state = rw (trimmed_at 0 (omega arith), trimmed_at 1 (omega arith), trimmed-field 2 4 (omega arith), trimmed-field 6 4 (omega arith), trimmed_rest)
