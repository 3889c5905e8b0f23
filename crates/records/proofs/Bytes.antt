-- A field's bytes, one by one, as the processor reads and writes them.
use Rattle.std.proofs.Common.{◌≡◌, ℕ, zero, suc, ◌+◌, ◌-◌, ◌^◌, ◌≤◌, ◌<◌, List, [], ◌∷◌, length, get_or, take, drop, refl, sym, ap, arith, add-zero, add-suc, append_assoc}
use Rattle.std.proofs.Math.Seq.{drop-cons, drop-drop}
use Rattle.std.proofs.lemmas.List.Edits.{sets, sets-eq}
use Rattle.std.specs.Int.{w16, w32, w64, from_le_bytes, to_le_bytes}
use native.Mathlib.Nat.{div-div-eq-div-mul}
use borrow.Rule.Slice.PartMut.{put_mid}
use Rattle.records.specs.Fields.{value, bytes, field}
use Rattle.records.specs.Holding.{HoldsField}

-- the w bytes from the i-th after place `at` on
abbrev pub cells : List ℕ → (at i w : ℕ) → List ℕ
cells l at i zero = []
cells l at i (suc w) = get_or l (at + i) 0 ∷ cells l at (suc i) w

pub cells_are : (l : List ℕ) (at i w : ℕ) → at + i + w ≤ length l → take w (drop (at + i) l) ≡ cells l at i w
cells_are l at i zero h = refl
cells_are l at i (suc w) h = rw (drop-cons l (at + i) 0 (omega arith)) (ap (λ r. get_or l (at + i) 0 ∷ r) (rw add-suc at (cells_are l at (suc i) w (omega arith))))

-- a number that the bytes of a field spell
pub holds_spelled : (l : List ℕ) (at w : ℕ) {r : ℕ} (bs : List ℕ) → at + w ≤ length l → cells l at 0 w ≡ bs → r ≡ value bs → r < 256 ^ w → HoldsField l at w r
unfolding field
holds_spelled l at w {r} bs h e v s =
    record { is = rw (rw add-zero at (cells_are l at 0 w (omega arith)), e) v; small = s }

-- what the processor reads in bytes is the number that they spell
pub spelled2 : (a b : ℕ) → from_le_bytes w16 (a ∷ b ∷ []) ≡ value (a ∷ b ∷ [])
unfolding value
spelled2 a b = omega arith

pub spelled4 : (a b c d : ℕ) → from_le_bytes w32 (a ∷ b ∷ c ∷ d ∷ []) ≡ value (a ∷ b ∷ c ∷ d ∷ [])
unfolding value
spelled4 a b c d = omega arith

pub spelled8 : (a b c d e f g h : ℕ) → from_le_bytes w64 (a ∷ b ∷ c ∷ d ∷ e ∷ f ∷ g ∷ h ∷ []) ≡ value (a ∷ b ∷ c ∷ d ∷ e ∷ f ∷ g ∷ h ∷ [])
unfolding value
spelled8 a b c d e f g h = omega arith

-- and it writes a number's bytes
pub written2 : (n : ℕ) → to_le_bytes w16 n ≡ bytes 2 n
unfolding bytes
written2 n = refl

pub written4 : (n : ℕ) → to_le_bytes w32 n ≡ bytes 4 n
unfolding bytes
written4 n = simp div-div-eq-div-mul

pub written8 : (n : ℕ) → to_le_bytes w64 n ≡ bytes 8 n
unfolding bytes
written8 n = simp div-div-eq-div-mul

-- a part that is copied is a run of stores
pub part_copied : (l : List ℕ) (at w : ℕ) (vs : List ℕ) → length vs ≡ w → at + w ≤ length l → put_mid at (at + w - at) l vs ≡ sets l at vs
part_copied l at w vs e h =
    let k : at + w - at ≡ w = omega arith in
    rw (k, sets-eq vs l at (omega arith), e, drop-drop) (sym (append_assoc (take at l) vs (drop (at + w) l)))
