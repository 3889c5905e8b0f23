-- What a run of stores leaves: a list with the elements from a place on replaced, and the fields in it.
-- Its length is that of the list (`length-sets` of `lib.Seq`). Document 01, "Records".
use Prim.Native.Nat.{ℕ, zero, suc, ◌+◌, ◌-◌, ◌%◌, ◌^◌, ◌≤◌, ◌<◌}
use native.Mathlib.Nat.{add-zero, add-suc, suc-add, le_refl, mod-eq_of_lt, sub-zero, zero-sub, suc-sub-suc}
use native.Mathlib.Omega.{arith}
use mathlib.Core.Path.{◌≡◌, refl, sym, ap, ◌∙◌}
use mathlib.Core.List.{List, [], ◌∷◌, ◌++◌, append_assoc}
use lib.ListN.{length, take, drop, get_or, set, length-append, length-drop}
use lib.Seq.{sets, sets-eq, take_all, take-nil, set_comm, take-set-le, drop-set-lt, get_or-take, get_or-drop, drop-drop, take-append-le, drop-append-le, take_at, drop_at, length-take-le}
use Rattle.records.specs.Fields.{value, bytes, field}
use Rattle.records.proofs.Fields.{length-bytes, value_bytes}

module _ {ℓ} {A : Type ℓ} where
  -- two runs, one behind the other, are one
  pub sets-append : (l : List A) (i : ℕ) (vs ws : List A) → sets l i (vs ++ ws) ≡ sets (sets l i vs) (i + length vs) ws
  sets-append l i [] ws = simp add-zero
  sets-append l i (v ∷ vs) ws = simp (add-suc, ← suc-add) (sets-append (set l i v) (suc i) vs ws)

  -- a store before a run may be made first
  set-sets : (l : List A) (j : ℕ) (ws : List A) (i : ℕ) (v : A) → i < j → set (sets l j ws) i v ≡ sets (set l i v) j ws
  set-sets l j [] i v h = refl
  set-sets l j (w ∷ ws) i v h =
      set-sets (set l j w) (suc j) ws i v (omega arith) ∙ ap (λ m. sets m (suc j) ws) (set_comm l j i w v (omega arith))

  -- a run and then the one right before it are one too
  pub sets_before : (l : List A) (i : ℕ) (vs ws : List A) → sets (sets l (i + length vs) ws) i vs ≡ sets l i (vs ++ ws)
  sets_before l i [] ws = rw add-zero
  sets_before l i (v ∷ vs) ws =
      rw (set-sets l (i + suc (length vs)) ws i v (omega arith), add-suc, ← suc-add) (sets_before (set l i v) (suc i) vs ws)

  -- ---- before the run and after it the list is as it was

  pub take_before : (l : List A) (i : ℕ) (vs : List A) (n : ℕ) → n ≤ i → take n (sets l i vs) ≡ take n l
  take_before l i [] n h = refl
  take_before l i (v ∷ vs) n h = take_before (set l i v) (suc i) vs n (omega arith) ∙ take-set-le n l i v h

  pub drop_after : (l : List A) (i : ℕ) (vs : List A) (n : ℕ) → i + length vs ≤ n → drop n (sets l i vs) ≡ drop n l
  drop_after l i [] n h = refl
  drop_after l i (v ∷ vs) n h = drop_after (set l i v) (suc i) vs n (omega arith) ∙ drop-set-lt n l i v (omega arith)

  pub get_or_before : (l : List A) (i : ℕ) (vs : List A) (k : ℕ) (d : A) → k < i → get_or (sets l i vs) k d ≡ get_or l k d
  get_or_before l i vs k d h = rw (← get_or-take i (sets l i vs) k d h, take_before l i vs i (le_refl i)) (get_or-take i l k d h)

  pub get_d_after : (l : List A) (i : ℕ) (vs : List A) (k : ℕ) (d : A) → i + length vs ≤ k → get_or (sets l i vs) k d ≡ get_or l k d
  get_d_after l i vs k d h = rw add-zero at (rw (drop_after l i vs k h, get_or-drop k l) at (sym (get_or-drop k (sets l i vs) 0 d)))

  -- what is left of a beginning is a beginning of what is left
  pub drop-take : (k n : ℕ) (l : List A) → drop k (take n l) ≡ take (n - k) (drop k l)
  drop-take zero n l = rw sub-zero
  drop-take (suc k) zero l = rw zero-sub
  drop-take (suc k) (suc n) [] = sym (take-nil (suc n - suc k))
  drop-take (suc k) (suc n) (x ∷ l) = rw suc-sub-suc (drop-take k n l)

  -- the n elements at a place
  pub part_is : (at n : ℕ) (l : List A) → drop at (take (at + n) l) ≡ take n (drop at l)
  part_is at n l = let e : at + n - at ≡ n = omega arith in rw e at (drop-take at (at + n) l)

  -- all that stand from a place on
  pub part_rest : (n : ℕ) (l : List A) → take (length l - n) (drop n l) ≡ drop n l
  part_rest n l = take_all (length l - n) (drop n l) (simp length-drop (le_refl (length l - n)))

  -- the n elements at a place that end before the run
  pub part_before : (l : List A) (i : ℕ) (vs : List A) (at n : ℕ) → at + n ≤ i → take n (drop at (sets l i vs)) ≡ take n (drop at l)
  part_before l i vs at n h = sym (part_is at n (sets l i vs)) ∙ ap (drop at) (take_before l i vs (at + n) h) ∙ part_is at n l

  -- ---- in the run stands what was written

  pub take_through : (l : List A) (i : ℕ) (vs : List A) → i + length vs ≤ length l → take (i + length vs) (sets l i vs) ≡ take i l ++ vs
  take_through l i vs h =
      let e : length (take i l ++ vs) ≡ i + length vs = rw (length-append, length-take-le i l (omega arith)) refl in
      rw (sets-eq vs l i h) (take_at (take i l ++ vs) (drop (i + length vs) l) (i + length vs) e)

  pub drop_from : (l : List A) (i : ℕ) (vs : List A) → i + length vs ≤ length l → drop i (sets l i vs) ≡ vs ++ drop (i + length vs) l
  drop_from l i vs h =
      rw (sets-eq vs l i h, append_assoc) (drop_at (take i l) (vs ++ drop (i + length vs) l) i (length-take-le i l (omega arith)))

  -- the n elements at a place in the run
  pub part_in : (l : List A) (i : ℕ) (vs : List A) (k n : ℕ) → i + length vs ≤ length l → k + n ≤ length vs
      → take n (drop (i + k) (sets l i vs)) ≡ take n (drop k vs)
  part_in l i vs k n h e =
      let rest : List A = drop (i + length vs) l in
      rw (← drop-drop k i (sets l i vs), drop_from l i vs h, drop-append-le k vs rest (omega arith))
      (take-append-le n (drop k vs) rest (simp length-drop (omega arith)))

-- ---- fields

pub field_before : (l : List ℕ) (i : ℕ) (vs : List ℕ) (at w : ℕ) → at + w ≤ i → field (sets l i vs) at w ≡ field l at w
unfolding field
field_before l i vs at w h = ap value (part_before l i vs at w h)

pub field_after : (l : List ℕ) (i : ℕ) (vs : List ℕ) (at w : ℕ) → i + length vs ≤ at → field (sets l i vs) at w ≡ field l at w
unfolding field
field_after l i vs at w h = ap (λ (m : List ℕ). value (take w m)) (drop_after l i vs at h)

pub field_in : (l : List ℕ) (i : ℕ) (vs : List ℕ) (k w : ℕ) → i + length vs ≤ length l → k + w ≤ length vs
    → field (sets l i vs) (i + k) w ≡ field vs k w
unfolding field
field_in l i vs k w h e = ap value (part_in l i vs k w h e)

-- a field behind what is before it, with anything after it
pub field_spelled : (front : List ℕ) (w n : ℕ) (rest : List ℕ) (at : ℕ) → length front ≡ at
    → field (front ++ (bytes w n ++ rest)) at w ≡ n % 256 ^ w
unfolding field
field_spelled front w n rest at e =
    rw (drop_at front (bytes w n ++ rest) at e, take_at (bytes w n) rest w (length-bytes w n)) (value_bytes w n)

-- what was written is read back
pub field-written : (l : List ℕ) (at w n : ℕ) → at + w ≤ length l → field (sets l at (bytes w n)) at w ≡ n % 256 ^ w
field-written l at w n h =
    let k : at + length (bytes w n) ≤ length l = rw length-bytes h in
    rw (sets-eq (bytes w n) l at k, append_assoc)
    (field_spelled (take at l) w n (drop (at + length (bytes w n)) l) at (length-take-le at l (omega arith)))

pub field-written_lt : (l : List ℕ) (at w : ℕ) {n : ℕ} → at + w ≤ length l → n < 256 ^ w → field (sets l at (bytes w n)) at w ≡ n
field-written_lt l at w {n} h k = field-written l at w n h ∙ mod-eq_of_lt k
