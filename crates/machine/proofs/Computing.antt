-- How a period is computed in the row values' own bytes, and what is read there.
use Prim.Native.Nat.{ℕ, zero, suc, ◌+◌, ◌*◌, ◌/◌, ◌%◌, ◌≤◌, ◌<◌}
use native.Mathlib.Nat.{add_comm, mod-lt}
use native.Mathlib.Omega.{arith}
use mathlib.Core.Bool.{Bool, true, false, not, cond, false≢true}
use mathlib.Core.List.{List, [], ◌∷◌, ◌++◌, map}
use mathlib.Core.Path.{◌≡◌, refl, ap, ◌∙◌}
use borrow.Author.Tests.{ltb-true}
use lib.Dec.{lit<}
use lib.ListN.{length, get_or, set, get_or-map}
use Rattle.periods.specs.Periods.{Period}
use Rattle.layout.specs.Rows.{Row, never, initial, attempt, negation, conjunction, disjunction, previous, names_rows}
use Rattle.layout.proofs.Rows.{both_below}
use Rattle.states.specs.States.{all_at_most}
use Rattle.states.proofs.Values.{all_at_most_at}
use Rattle.machine.specs.Machine.{byte_of, is_true, value, new_values}
use Rattle.machine.specs.Computing.{first_bits, values_in, packed, old_in}
use Rattle.machine.proofs.Machine.{byte_of_le, is_true-byte_of, length-new_values}

-- ---- values as bytes

byte_of_lem : (v : ℕ) → v ≤ 1 → v ≡ byte_of (is_true v)
byte_of_lem zero h = refl
byte_of_lem (suc zero) h = refl
byte_of_lem (suc (suc v)) h = absurd (omega arith)

pub first_byte : (v : ℕ) → v % 2 ≡ byte_of (is_true (v % 2))
first_byte v = let h : v % 2 < 2 = mod-lt v (lit< tt) in byte_of_lem (v % 2) (omega arith)

-- ---- packed values

new_of : (v o : Bool) → (byte_of v + 2 * byte_of o) % 2 ≡ byte_of v
new_of true true = refl
new_of true false = refl
new_of false true = refl
new_of false false = refl

-- the new values alone
pub first_bits-packed : (old new : List Bool) → length new ≡ length old → first_bits (packed old new) ≡ map byte_of new
unfolding packed first_bits
first_bits-packed [] [] h = refl
first_bits-packed [] (v ∷ new) h = absurd (omega arith)
first_bits-packed (o ∷ old) [] h = absurd (omega arith)
first_bits-packed (o ∷ old) (v ∷ new) h = rw (new_of v o, first_bits-packed old new (omega arith))

-- ---- bytes of which the first rows' have new values

abbrev pub over : List ℕ → (new : List Bool) → List ℕ
over [] new = []
over (w ∷ vs) [] = w ∷ vs
over (w ∷ vs) (v ∷ new) = (byte_of v + 2 * (w % 2)) ∷ over vs new

over_none : (vs : List ℕ) → vs ≡ over vs []
over_none [] = refl
over_none (w ∷ vs) = refl

-- the next row's value is written beside its old one
over_next : (vs : List ℕ) (new : List Bool) (v : Bool) → length new < length vs
    → set (over vs new) (length new) (2 * (get_or (over vs new) (length new) 0 % 2) + byte_of v) ≡ over vs (new ++ (v ∷ []))
over_next [] new v h = absurd (omega arith)
over_next (w ∷ vs) [] v h = rw (add_comm (2 * (w % 2)) (byte_of v), ← over_none vs)
over_next (w ∷ vs) (u ∷ new) v h = ap (λ (l : List ℕ). (byte_of u + 2 * (w % 2)) ∷ l) (over_next vs new v (omega arith))

over_old : (vs : List ℕ) (new : List Bool) → old_in (length new) (over vs new) ≡ values_in vs
unfolding old_in values_in first_bits
over_old [] [] = refl
over_old [] (v ∷ new) = refl
over_old (w ∷ vs) [] = refl
over_old (w ∷ vs) (v ∷ new) =
    let e : (byte_of v + 2 * (w % 2)) / 2 % 2 ≡ w % 2 = omega (arith, byte_of_le v) in
    rw (e, over_old vs new)

over_new : (vs : List ℕ) (new : List Bool) → length new ≤ length vs → (x : ℕ) → x < length new
    → get_or (values_in (over vs new)) x false ≡ get_or new x false
unfolding values_in first_bits
over_new vs [] h x i = absurd (omega arith)
over_new [] (v ∷ new) h x i = absurd (omega arith)
over_new (w ∷ vs) (v ∷ new) h zero i =
    let e : (byte_of v + 2 * (w % 2)) % 2 ≡ byte_of v = omega (arith, byte_of_le v) in
    ap is_true e ∙ is_true-byte_of v
over_new (w ∷ vs) (v ∷ new) h (suc x) i = over_new vs new (omega arith) x (omega arith)

over_all : (vs : List ℕ) (new : List Bool) → length new ≡ length vs → over vs new ≡ packed (values_in vs) new
unfolding packed values_in first_bits
over_all [] new h = refl
over_all (w ∷ vs) [] h = absurd (omega arith)
over_all (w ∷ vs) (v ∷ new) h = rw (← first_byte w, over_all vs new (omega arith))

-- ---- the rows computed in order

-- a row's value goes by the values of the rows that it names
pub value_by : (first : Bool) (p : Period) (old new new' : List Bool) (k n : ℕ) → ((x : ℕ) → x < k → get_or new x false ≡ get_or new' x false)
    → (r : Row) → names_rows k n r ≡ true → value first p old new r ≡ value first p old new' r
value_by first p old new new' k n h never g = refl
value_by first p old new new' k n h initial g = refl
value_by first p old new new' k n h (attempt q a) g = refl
value_by first p old new new' k n h (negation x) g = ap not (h x (ltb-true x k g))
value_by first p old new new' k n h (conjunction x y) g = let b = both_below k x y g in rw (h x b.0, h y b.1)
value_by first p old new new' k n h (disjunction x y) g = let b = both_below k x y g in rw (h x b.0, h y b.1)
value_by first p old new new' k n h (previous x) g = refl

-- in period 1 every value is false
pub fresh_of : (first : Bool) (vs : List ℕ) → all_at_most (cond first 0 1) (first_bits vs) ≡ true → first ≡ true → (x : ℕ) → get_or (values_in vs) x false ≡ false
unfolding values_in
fresh_of true vs h e x =
    let z : get_or (first_bits vs) x 0 ≤ 0 = all_at_most_at 0 (first_bits vs) h x in
    let q : get_or (first_bits vs) x 0 ≡ 0 = omega arith in
    get_or-map is_true (first_bits vs) x 0 ∙ ap is_true q
fresh_of false vs h e x = absurd (false≢true e)

module _ (first : Bool) (p : Period) (vs : List ℕ) (rows : List Row) where
  -- the bytes after k rows
  abbrev pub so_far : ℕ → List ℕ
  so_far k = over vs (new_values first p (values_in vs) rows k)

  pub so_far_none : vs ≡ so_far 0
  unfolding new_values
  so_far_none = over_none vs

  pub so_far_old : (k : ℕ) → old_in k (so_far k) ≡ values_in vs
  so_far_old k =
      let new = new_values first p (values_in vs) rows k in
      rw (length-new_values first p (values_in vs) rows k) at (over_old vs new)

  pub so_far_next : (k n : ℕ) → k < length vs → names_rows k n (get_or rows k never) ≡ true
      → set (so_far k) k (2 * (get_or (so_far k) k 0 % 2) + byte_of (value first p (old_in k (so_far k)) (values_in (so_far k)) (get_or rows k never))) ≡ so_far (suc k)
  unfolding new_values
  so_far_next k n h g =
      let new = new_values first p (values_in vs) rows k in
      let r = get_or rows k never in
      let l : length new ≡ k = length-new_values first p (values_in vs) rows k in
      let e : value first p (old_in k (so_far k)) (values_in (so_far k)) r ≡ value first p (values_in vs) new r =
      rw (so_far_old k) (value_by first p (values_in vs) (values_in (so_far k)) new k n (λ x i. over_new vs new (omega arith) x (omega arith)) r g) in
      rw e (rw l at (over_next vs new (value first p (values_in vs) new r) (omega arith)))

  pub so_far_all : so_far (length vs) ≡ packed (values_in vs) (new_values first p (values_in vs) rows (length vs))
  so_far_all = over_all vs (new_values first p (values_in vs) rows (length vs)) (length-new_values first p (values_in vs) rows (length vs))
