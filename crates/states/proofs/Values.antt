-- Row values that are all at most a number, and the greatest of them.
use Prim.Native.Nat.{ℕ, zero, suc, ◌≤◌}
use native.Mathlib.Omega.{arith}
use mathlib.Core.Path.{◌≡◌, refl, sym}
use mathlib.Core.Bool.{true, ◌&&◌, and-eq-true_iff, and-true, and_assoc}
use mathlib.Core.List.{List, [], ◌∷◌, ◌++◌}
use lib.Dec.{leb}
use lib.ListN.{get_or, length}
use borrow.Author.Tests.{leb-true, le-leb}
use Rattle.std.proofs.lemmas.Bool.Decides.{nat_tests}
use Rattle.std.specs.List.{fold}
use Rattle.std.specs.Prelude.{max}
use Rattle.states.specs.States.{all_at_most}

-- ---- values that are all at most m

pub all_at_most_at : (m : ℕ) (vs : List ℕ) → all_at_most m vs ≡ true → (i : ℕ) → get_or vs i 0 ≤ m
unfolding all_at_most
all_at_most_at m [] h i = omega arith
all_at_most_at m (v ∷ vs) h zero = leb-true v m ((and-eq-true_iff (leb v m) (all_at_most m vs)).0 h).0
all_at_most_at m (v ∷ vs) h (suc i) = all_at_most_at m vs ((and-eq-true_iff (leb v m) (all_at_most m vs)).0 h).1 i

pub at_all_at_most : (m : ℕ) (vs : List ℕ) → ((i : ℕ) → get_or vs i 0 ≤ m) → all_at_most m vs ≡ true
unfolding all_at_most
at_all_at_most m [] h = refl
at_all_at_most m (v ∷ vs) h = rw (le-leb v m (h 0)) (at_all_at_most m vs (λ i. h (suc i)))

pub all_at_most-mono : {m n : ℕ} (vs : List ℕ) → m ≤ n → all_at_most m vs ≡ true → all_at_most n vs ≡ true
all_at_most-mono {m} {n} vs l h = at_all_at_most n vs (λ i. omega (arith, all_at_most_at m vs h i))

-- ---- values in two parts

pub all_at_most-append : (m : ℕ) (vs ws : List ℕ) → all_at_most m (vs ++ ws) ≡ (all_at_most m vs && all_at_most m ws)
unfolding all_at_most
all_at_most-append m [] ws = refl
all_at_most-append m (v ∷ vs) ws = rw (all_at_most-append m vs ws) (sym (and_assoc (leb v m) (all_at_most m vs) (all_at_most m ws)))

pub none_left : (m : ℕ) (vs : List ℕ) → length vs ≡ 0 → all_at_most m vs ≡ true
unfolding all_at_most
none_left m [] h = refl
none_left m (v ∷ vs) h = absurd (omega arith)

-- ---- the greatest of the values

leb-max : (a b m : ℕ) → leb (max a b) m ≡ (leb a m && leb b m)
leb-max a b m = grind (arith, nat_tests)

greatest_from : (m a : ℕ) (vs : List ℕ) → leb (fold max a vs) m ≡ (leb a m && all_at_most m vs)
unfolding all_at_most
greatest_from m a [] = sym (and-true (leb a m))
greatest_from m a (v ∷ vs) = rw (greatest_from m (max a v) vs, leb-max a v m) (and_assoc (leb a m) (leb v m) (all_at_most m vs))

pub all_at_most_greatest : (m : ℕ) (vs : List ℕ) → leb (fold max 0 vs) m ≡ all_at_most m vs
all_at_most_greatest m vs = rw (greatest_from m 0 vs, le-leb 0 m (omega arith))
