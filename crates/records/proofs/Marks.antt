-- The marks of the records. Document 01, "Records" and "Image and row machine"; document 02, "Thirty-two actions" and "Join
-- the two parties' logs".
use Prim.Native.Nat.{ℕ, suc, ◌+◌, ◌-◌, ◌≤◌}
use native.Mathlib.Nat.{add-zero}
use native.Mathlib.Numerals.{add-one}
use native.Mathlib.Omega.{arith}
use mathlib.Core.Path.{◌≡◌, refl, ap, ◌∙◌}
use mathlib.Core.Bool.{true, false, and-eq-true_iff, and-true}
use mathlib.Core.List.{List, [], ◌∷◌, map}
use lib.Dec.{eqb}
use lib.ListN.{length, take, drop, get_or}
use lib.Seq.{sets, drop-cons, get_or-drop}
use lib.Pointwise.{pointwise}
use borrow.Rule.Slice.PartMut.{put_mid}
use borrow.Author.Tests.{eqb-true}
use Rattle.records.proofs.Bytes.{cells_are, part_copied}
use Rattle.records.specs.Marks.{contract_mark, narrow_mark, wide_mark, log_mark, row_mark, end_mark, marked}

abbrev pub marks : List (List ℕ)
marks = contract_mark ∷ narrow_mark ∷ wide_mark ∷ log_mark ∷ row_mark ∷ end_mark ∷ []

-- they are pairwise different: each matches itself and no other
pub marks_differ : map (λ (m : List ℕ). map (marked m 0) marks) marks
    ≡ (true ∷ false ∷ false ∷ false ∷ false ∷ false ∷ [])
    ∷ (false ∷ true ∷ false ∷ false ∷ false ∷ false ∷ [])
    ∷ (false ∷ false ∷ true ∷ false ∷ false ∷ false ∷ [])
    ∷ (false ∷ false ∷ false ∷ true ∷ false ∷ false ∷ [])
    ∷ (false ∷ false ∷ false ∷ false ∷ true ∷ false ∷ [])
    ∷ (false ∷ false ∷ false ∷ false ∷ false ∷ true ∷ [])
    ∷ []
unfolding marked
marks_differ = refl

module _ (l : List ℕ) (at : ℕ) (m : List ℕ) (h : marked l at m ≡ true) where
  first : get_or l at 0 ≡ get_or m 0 0
  unfolding marked
  first = eqb-true (get_or l at 0) (get_or m 0 0) ((and-eq-true_iff (eqb (get_or l at 0) (get_or m 0 0)) _).0 h).0

  second : get_or l (at + 1) 0 ≡ get_or m 1 0
  unfolding marked
  second = eqb-true (get_or l (at + 1) 0) (get_or m 1 0) ((and-eq-true_iff (eqb (get_or l at 0) (get_or m 0 0)) _).0 h).1

-- bytes with mark m match a mark n just where m does
pub same_marked : (l : List ℕ) (at : ℕ) (m n : List ℕ) → marked l at m ≡ true → marked l at n ≡ marked m 0 n
unfolding marked
same_marked l at m n h = rw (first l at m h, second l at m h)

-- a mark in the bytes from a place on
pub marked-drop : (l : List ℕ) (at : ℕ) (mark : List ℕ) → marked l at mark ≡ marked (drop at l) 0 mark
unfolding marked
marked-drop l at mark = simp (get_or-drop, add-zero)

-- its two bytes stand where a mark does
pub of_marked : (l : List ℕ) (at a b : ℕ) → at + 2 ≤ length l → marked l at (a ∷ b ∷ []) ≡ true → take 2 (drop at l) ≡ a ∷ b ∷ []
of_marked l at a b k h =
    rw (drop-cons l at 0 (omega arith), drop-cons l (suc at) 0 (omega arith), first l at (a ∷ b ∷ []) h)
    (rw add-one at (ap (λ (x : ℕ). a ∷ x ∷ []) (second l at (a ∷ b ∷ []) h)))

-- ---- as the program compares and writes it

mark_bytes : (m : List ℕ) → length m ≡ 2 → m ≡ get_or m 0 0 ∷ get_or m 1 0 ∷ []
mark_bytes (a ∷ b ∷ []) e = refl
mark_bytes [] e = cc
mark_bytes (a ∷ []) e = cc
mark_bytes (a ∷ b ∷ c ∷ m) e = absurd (omega arith)

pub marked_part : (l : List ℕ) (at : ℕ) (m : List ℕ) → length m ≡ 2 → at + 2 ≤ length l → pointwise eqb (take (at + 2 - at) (drop at l)) m ≡ marked l at m
unfolding marked
marked_part l at m e h =
    let k : at + 2 - at ≡ 2 = omega arith in
    let two : take 2 (drop at l) ≡ get_or l at 0 ∷ get_or l (at + 1) 0 ∷ [] = rw add-zero at (cells_are l at 0 2 (omega arith)) in
    rw (k, two, mark_bytes m e) (simp and-true)

pub mark_copied : (l : List ℕ) (at : ℕ) (m : List ℕ) → length m ≡ 2 → at + 2 ≤ length l
    → put_mid at (at + 2 - at) l m ≡ sets l at (get_or m 0 0 ∷ get_or m 1 0 ∷ [])
mark_copied l at m e h = part_copied l at 2 m e h ∙ ap (λ (bs : List ℕ). sets l at bs) (mark_bytes m e)
