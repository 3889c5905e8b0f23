-- The row that good fields make, and how values are read from row values where the first k rows have new ones.
use Prim.Native.Nat.{ℕ, zero, suc, ◌/◌, ◌%◌, ◌≤◌, ◌<◌}
use native.Mathlib.Omega.{arith}
use Rattle.std.specs.Prelude.{min, max, bit_and, bit_or, ◌||◌}
use Rattle.std.specs.Int.Bits.{and_step, or_step}
use mathlib.Core.Bool.{Bool, true, false, not, ◌&&◌, cond, and-eq-true_iff, false≢true}
use mathlib.Core.List.{List, [], ◌∷◌, map}
use mathlib.Core.Option
use mathlib.Core.Option.{none, some}
use mathlib.Core.Path.{◌≡◌, refl, sym, ap, ◌∙◌}
use borrow.Author.Tests.{ltb-true, leb-true, ne_eqb}
use lib.Dec.{eqb, ltb}
use lib.ListN.{length, get_or, get_or-map}
use Rattle.periods.specs.Limits.{actions}
use Rattle.periods.specs.declared.Party.{Party}
use Rattle.periods.specs.declared.Party.TheVariants.{One as party1, Two as party2}
use Rattle.periods.specs.Periods.{Period, party_of, party_number}
use Rattle.layout.specs.declared.RowKind.{RowKind}
use Rattle.layout.specs.declared.RowKind.TheVariants.{Never, Initial, Attempt, Not, And, Or, Previous}
use Rattle.layout.specs.declared.RowFields.{RowFields}
use Rattle.layout.specs.Rows.{Row, never, initial, attempt, negation, conjunction, disjunction, previous, attempt_of, row_of, good_row}
use Rattle.layout.specs.Fields.{kind_number, row_from}
use Rattle.layout.proofs.Rows.{good_fields, good_by_kind, both_below}
use Rattle.machine.specs.Machine.{byte_of, is_true, value}
use Rattle.machine.specs.Computing.{first_bits, values_in, old_in, GoodFields}
use Rattle.machine.proofs.Computing.{first_byte}

-- ---- the row of a kind and good fields

abbrev pub the_party : ℕ → Party
the_party x = cond (eqb x 1) party1 party2

abbrev pub row_of_kind : RowKind → (x y : ℕ) → Row
row_of_kind Never x y = never
row_of_kind Initial x y = initial
row_of_kind Attempt x y = attempt (the_party x) y
row_of_kind Not x y = negation x
row_of_kind And x y = conjunction x y
row_of_kind Or x y = disjunction x y
row_of_kind Previous x y = previous x

module _ (k n : ℕ) where
  good_cond : (t : Bool) (r : Row) → good_row k n (cond t (some r) none) ≡ true → Option.get_or (cond t (some r) none) never ≡ r
  good_cond true r g = refl
  good_cond false r g = absurd (false≢true g)

  good_attempt : (x y : ℕ) → good_row k n (attempt_of (party_of x) y) ≡ true → Option.get_or (attempt_of (party_of x) y) never ≡ attempt (the_party x) y
  good_attempt zero y g = absurd (false≢true g)
  good_attempt (suc zero) y g = good_cond (ltb y actions) (attempt party1 y) g
  good_attempt (suc (suc zero)) y g = good_cond (ltb y actions) (attempt party2 y) g
  good_attempt (suc (suc (suc x))) y g =
      let x' : ℕ = suc (suc (suc x)) in
      absurd (false≢true (rw (ne_eqb x' 1 (λ e. omega arith), ne_eqb x' 2 (λ e. omega arith)) at g))

  good_is : (j : RowKind) (x y : ℕ) → good_row k n (row_of (kind_number j) x y) ≡ true → Option.get_or (row_of (kind_number j) x y) never ≡ row_of_kind j x y
  unfolding row_of
  good_is Never x y g = good_cond (eqb x 0 && eqb y 0) never g
  good_is Initial x y g = good_cond (eqb x 0 && eqb y 0) initial g
  good_is Attempt x y g = good_attempt x y g
  good_is Not x y g = good_cond (eqb y 0) (negation x) g
  good_is And x y g = refl
  good_is Or x y g = refl
  good_is Previous x y g = good_cond (eqb y 0) (previous x) g

-- the rows, the party and the action that it names
module _ (n : ℕ) where
  abbrev pub Named : RowKind → (x y : ℕ) → Type 0
  Named Never x y = Unit {0}
  Named Initial x y = Unit {0}
  Named Attempt x y = (x ≡ party_number (the_party x)) × (y < actions)
  Named Not x y = x < n
  Named And x y = (x < n) × (y < n)
  Named Or x y = (x < n) × (y < n)
  Named Previous x y = x < n

  party_named : (x : ℕ) → 1 ≤ x → x ≤ 2 → x ≡ party_number (the_party x)
  party_named zero h i = absurd (omega arith)
  party_named (suc zero) h i = refl
  party_named (suc (suc zero)) h i = refl
  party_named (suc (suc (suc x))) h i = absurd (omega arith)

  named : (j : RowKind) (x y : ℕ) → good_fields n n j x y ≡ true → Named j x y
  named Never x y g = tt
  named Initial x y g = tt
  named Attempt x y g =
      let w = simp and-eq-true_iff at g in
      (party_named x (leb-true 1 x w.0.0) (leb-true x 2 w.0.1), ltb-true y actions w.1)
  named Not x y g = ltb-true x n ((and-eq-true_iff (eqb y 0) (ltb x n)).0 g).1
  named And x y g = both_below n x y g
  named Or x y g = both_below n x y g
  named Previous x y g = ltb-true x n ((and-eq-true_iff (eqb y 0) (ltb x n)).0 g).1

-- ---- such a row's value

-- an old value is false in period 1
fresh_old : (first o : Bool) → (first ≡ true → o ≡ false) → (not first && o) ≡ o
fresh_old true o h = sym (h refl)
fresh_old false o h = refl

module _ {k : ℕ} {values : List ℕ} {row : RowFields} {first : Bool} (h : GoodFields k values row first) where
  pub fields_named : Named (length values) row.kind row.x row.y
  fields_named = named (length values) row.kind row.x row.y (sym (good_by_kind (length values) (length values) row) ∙ h.good)

  pub value_by_kind : (p : Period) → value first p (old_in k values) (values_in values) (Option.get_or (row_from row) never)
      ≡ value first p (old_in k values) (values_in values) (row_of_kind row.kind row.x row.y)
  value_by_kind p = ap (value first p (old_in k values) (values_in values)) (good_is (length values) (length values) row.kind row.x row.y h.good)

  pub old_by_now : (x : ℕ) → (not first && get_or (old_in k values) x false) ≡ get_or (old_in k values) x false
  old_by_now x = fresh_old first (get_or (old_in k values) x false) (λ e. h.fresh e x)

-- ---- what row values hold where the first k rows have new ones

pub new_is : (l : List ℕ) (x : ℕ) → get_or (values_in l) x false ≡ is_true (get_or l x 0 % 2)
unfolding values_in first_bits
new_is l x = get_or-map is_true (map (λ (v : ℕ). v % 2) l) x 0 ∙ ap is_true (get_or-map (λ (v : ℕ). v % 2) l x 0)

least : (a b : Bool) → is_true (min (byte_of a) (byte_of b)) ≡ (a && b)
least true true = refl
least true false = refl
least false true = refl
least false false = refl

most : (a b : Bool) → is_true (max (byte_of a) (byte_of b)) ≡ (a || b)
most true true = refl
most true false = refl
most false true = refl
most false false = refl

-- the first bit of two bytes' `&` and `|`
module _ (l : List ℕ) (x y : ℕ) where
  pub new_both : is_true (bit_and (get_or l x 0) (get_or l y 0) % 2) ≡ (get_or (values_in l) x false && get_or (values_in l) y false)
  new_both =
      let v = get_or l x 0 in
      let w = get_or l y 0 in
      let e : bit_and v w % 2 ≡ min (v % 2) (w % 2) = omega (arith, and_step v w) in
      rw (e, new_is l x, new_is l y) (rw (← first_byte v, ← first_byte w) at (least (is_true (v % 2)) (is_true (w % 2))))

  pub new_either : is_true (bit_or (get_or l x 0) (get_or l y 0) % 2) ≡ (get_or (values_in l) x false || get_or (values_in l) y false)
  new_either =
      let v = get_or l x 0 in
      let w = get_or l y 0 in
      let e : bit_or v w % 2 ≡ max (v % 2) (w % 2) = omega (arith, or_step v w) in
      rw (e, new_is l x, new_is l y) (rw (← first_byte v, ← first_byte w) at (most (is_true (v % 2)) (is_true (w % 2))))

below : (k : ℕ) (l : List ℕ) (x : ℕ) → x < k → get_or (old_in k l) x false ≡ is_true (get_or l x 0 / 2 % 2)
unfolding old_in values_in first_bits
below zero l x h = absurd (omega arith)
below (suc k) [] x h = refl
below (suc k) (v ∷ l) zero h = refl
below (suc k) (v ∷ l) (suc x) h = below k l x (omega arith)

above : (k : ℕ) (l : List ℕ) (x : ℕ) → k ≤ x → get_or (old_in k l) x false ≡ is_true (get_or l x 0 % 2)
unfolding old_in values_in first_bits
above zero l x h = new_is l x
above (suc k) [] x h = refl
above (suc k) (v ∷ l) zero h = absurd (omega arith)
above (suc k) (v ∷ l) (suc x) h = above k l x (omega arith)

module _ (k : ℕ) (values : List ℕ) (x : ℕ) where
  pub old_below : x < k → get_or (old_in k values) x false ≡ is_true (get_or values x 0 / 2 % 2)
  old_below i = below k values x i

  pub old_above : k ≤ x → get_or (old_in k values) x false ≡ is_true (get_or values x 0 % 2)
  old_above i = above k values x i
