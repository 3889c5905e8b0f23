-- The deciding period of a clause lies between 1 and the length of the list, and what a clause means on the first n periods is what
-- it has decided by period n.
use Prim.Native.Nat.{ℕ, zero, suc, ◌+◌, ◌-◌, ◌≤◌, ◌<◌, zero-le, suc-le-suc}
use native.Mathlib.Nat.{le_refl}
use native.Mathlib.Omega.{arith}
use mathlib.Core.Bool.{Bool, true, false, cond}
use mathlib.Core.List.{List, [], ◌∷◌}
use mathlib.Core.Logic.{◌⊎◌, inl, inr}
use mathlib.Core.Option.{Option, none, some}
use mathlib.Core.Path.{◌≡◌, refl, sym, ◌∙◌, subst}
use borrow.Author.Tests.{lt-ltb, le-ltb, lt-leb, le-leb}
use lib.Dec.{ltb, leb}
use lib.ListN.{length, take, drop, length-take, length-drop}
use Rattle.records.proofs.Cases.{lt_or_le}
use Rattle.records.proofs.Written.{drop-take}
use Rattle.periods.specs.declared.Party.{Party}
use Rattle.periods.specs.Periods.{other, Period, tries}
use Rattle.contract.specs.Expressions.{Expression, Holds}
use Rattle.contract.specs.Readings.{Reading, pending, accepted, rejected, reading, acceptance}
use Rattle.contract.specs.Meaning.{Parties, only, both_parties, Literal, duty, ban, power, Clause, literal, deadline, both, then, repair, repeat, when, until, unite, Decision, undecided, satisfied, violated, literal_decision, tested_first, literal_meaning, earlier, both_meaning, later, after, then_meaning, repair_meaning, repeat_meaning, when_meaning, no_later, until_meaning, meaning, EmptyFree}
use Rattle.contract.specs.Verdicts.{decision_period}
use Rattle.contract.proofs.Expressions.{some_list}
use Rattle.contract.proofs.Windows.{deadline_none, deadline_one, deadline_more}
use Rattle.contract.proofs.Readings.{accepted_iff, rejected_iff, reading_by, reading-take, Between, happened_by}
use Rattle.contract.proofs.Stretches.{within-acceptance, acceptance-take}

-- what has been decided by period n
abbrev pub decided_by : ℕ → Decision → Decision
decided_by n undecided = undecided
decided_by n (satisfied k) = cond (ltb n k) undecided (satisfied k)
decided_by n (violated k b) = cond (ltb n k) undecided (violated k b)

-- a decision between period 1 and period n, or none
abbrev pub Within : ℕ → Decision → Type 0
Within n undecided = Unit {0}
Within n (satisfied k) = (1 ≤ k) × (k ≤ n)
Within n (violated k b) = (1 ≤ k) × (k ≤ n)

within_literal : (l : Literal) (s t : Bool) (n : ℕ) → Within (suc n) (literal_decision l s t)
within_literal (duty (only p)) true true n = omega arith
within_literal (duty (only p)) true false n = omega arith
within_literal (duty (only p)) false t n = omega arith
within_literal (duty both_parties) true true n = omega arith
within_literal (duty both_parties) true false n = omega arith
within_literal (duty both_parties) false true n = omega arith
within_literal (duty both_parties) false false n = omega arith
within_literal (ban p) true true n = omega arith
within_literal (ban p) true false n = omega arith
within_literal (ban p) false t n = omega arith
within_literal (power p) true true n = omega arith
within_literal (power p) true false n = omega arith
within_literal (power p) false t n = omega arith

within-cond : (n : ℕ) (t : Bool) (a b : Decision) → Within n a → Within n b → Within n (cond t a b)
within-cond n true a b p q = p
within-cond n false a b p q = q

within_both : (n : ℕ) (a b : Decision) → Within n a → Within n b → Within n (both_meaning a b)
within_both n undecided undecided p q = tt
within_both n undecided (satisfied k) p q = tt
within_both n undecided (violated k c) p q = q
within_both n (satisfied j) undecided p q = tt
within_both n (satisfied j) (satisfied k) p q = omega arith
within_both n (satisfied j) (violated k c) p q = q
within_both n (violated j b) undecided p q = p
within_both n (violated j b) (satisfied k) p q = p
within_both n (violated j b) (violated k c) p q =
    within-cond n (ltb j k) (violated j b) _ p (within-cond n (ltb k j) (violated k c) (violated j (unite b c)) q p)

-- what reads from period k + 1 decides later than k
within-later : (n k : ℕ) (d : Decision) → k ≤ n → Within (n - k) d → Within n (later k d)
within-later n k undecided h p = tt
within-later n k (satisfied j) h p = omega arith
within-later n k (violated j b) h p = omega arith

within_after : (m : List Period → Decision) → ((w : List Period) → Within (length w) (m w))
    → (w : List Period) (k : ℕ) → k ≤ length w → Within (length w) (after m w k)
within_after m bounded w k h =
    within-later (length w) k (m (drop k w)) h (subst (λ (n : ℕ). Within n (m (drop k w))) (length-drop k w) (bounded (drop k w)))

within_then : (n : ℕ) (d : Decision) (f : ℕ → Decision) → Within n d → ((k : ℕ) → k ≤ n → Within n (f k)) → Within n (then_meaning d f)
within_then n undecided f p q = tt
within_then n (satisfied k) f p q = q k p.1
within_then n (violated k b) f p q = p

within_repair : (n : ℕ) (d : Decision) (f : ℕ → Decision) → Within n d → ((k : ℕ) → k ≤ n → Within n (f k)) → Within n (repair_meaning d f)
within_repair n undecided f p q = tt
within_repair n (satisfied k) f p q = p
within_repair n (violated k b) f p q = q k p.1

-- no decision lies within no periods
pub within_none : (d : Decision) → Within 0 d → d ≡ undecided
within_none undecided p = refl
within_none (satisfied k) p = absurd (omega arith)
within_none (violated k b) p = absurd (omega arith)

-- the same of readings
abbrev pub ReadWithin : ℕ → Reading → Type 0
ReadWithin n pending = Unit {0}
ReadWithin n (accepted k) = (1 ≤ k) × (k ≤ n)
ReadWithin n (rejected k) = (1 ≤ k) × (k ≤ n)

pub within-reading : (e : Expression) (w : List Period) → ¬ Holds e [] → ReadWithin (length w) (reading e w)
within-reading e w guarded = go (reading e w) refl
  where
    go : (r : Reading) → reading e w ≡ r → ReadWithin (length w) r
    go pending h = tt
    go (accepted zero) h = absurd (guarded ((accepted_iff e w zero).0 h).held)
    go (accepted (suc k)) h = (suc-le-suc zero-le, ((accepted_iff e w (suc k)).0 h).within)
    go (rejected zero) h = absurd (((rejected_iff e w zero).0 h).dead (some_list e).0 (some_list e).1)
    go (rejected (suc k)) h = (suc-le-suc zero-le, ((rejected_iff e w (suc k)).0 h).within)

within_when : (n : ℕ) (r : Reading) (f : ℕ → Decision) → ReadWithin n r → ((k : ℕ) → k ≤ n → Within n (f k)) → Within n (when_meaning r f)
within_when n pending f p q = tt
within_when n (accepted k) f p q = q k p.1
within_when n (rejected k) f p q = p

within_until : (n : ℕ) (d : Decision) (a : Option ℕ) → Within n d → Between n a → Within n (until_meaning d a)
within_until n d none p q = p
within_until n undecided (some k) p q = q
within_until n (satisfied j) (some k) p q = within-cond n (leb j k) (satisfied j) (satisfied k) p q
within_until n (violated j b) (some k) p q = within-cond n (leb j k) (violated j b) (satisfied k) p q

within_repeat : (m : List Period → Decision) → ((w : List Period) → Within (length w) (m w))
    → (f : ℕ) (w : List Period) → Within (length w) (repeat_meaning m f w)
unfolding repeat_meaning
within_repeat m bounded zero w = tt
within_repeat m bounded (suc f) w =
    within_then (length w) (m w) (after (repeat_meaning m f) w) (bounded w) (within_after (repeat_meaning m f) (within_repeat m bounded f) w)

within_first : (l : Literal) (a : ℕ) (w : List Period) → Within (length w) (meaning (literal l a) w)
unfolding meaning
within_first l a [] = tt
within_first l a (x ∷ w) = within_literal l (tries x (tested_first l) a) (tries x (other (tested_first l)) a) (length w)

within_deadline : (p : Party) (a d : ℕ) (w : List Period) → Within (length w) (meaning (deadline p a d) w)
unfolding meaning
within_deadline p a zero w = rw (deadline_none p a w) (within_first (duty (only p)) a w)
within_deadline p a (suc zero) w = rw (deadline_one p a w) (within_first (duty (only p)) a w)
within_deadline p a (suc (suc n)) w =
    rw (deadline_more p a n w)
    (within_repair (length w) (meaning (literal (duty (only p)) a) w) (after (meaning (deadline p a (suc n))) w) (within_first (duty (only p)) a w)
    (within_after (meaning (deadline p a (suc n))) (within_deadline p a (suc n)) w))

-- the deciding period lies between 1 and the length
pub decision_within : (c : Clause) → EmptyFree c → (w : List Period) → Within (length w) (meaning c w)
unfolding meaning EmptyFree
decision_within (literal l a) g w = within_first l a w
decision_within (deadline p a d) g w = within_deadline p a d w
decision_within (both l r) g w = within_both (length w) (meaning l w) (meaning r w) (decision_within l g.0 w) (decision_within r g.1 w)
decision_within (then l r) g w =
    within_then (length w) (meaning l w) (after (meaning r) w) (decision_within l g.0 w) (within_after (meaning r) (decision_within r g.1) w)
decision_within (repair l r) g w =
    within_repair (length w) (meaning l w) (after (meaning r) w) (decision_within l g.0 w) (within_after (meaning r) (decision_within r g.1) w)
decision_within (repeat c) g w = within_repeat (meaning c) (decision_within c g) (length w) w
decision_within (when e c) g w =
    within_when (length w) (reading e w) (after (meaning c) w) (within-reading e w g.0) (within_after (meaning c) (decision_within c g.1) w)
decision_within (until c e) g w =
    within_until (length w) (meaning c w) (acceptance e w) (decision_within c g.0 w) (within-acceptance e w)

-- Beginnings: what a clause means on the first n periods is what it has decided by period n.

-- nothing is decided before the deciding period, all from there on
pub not_yet : (n : ℕ) (d : Decision) → n < decision_period d → decided_by n d ≡ undecided
not_yet n undecided h = refl
not_yet n (satisfied k) h = rw (lt-ltb n k h)
not_yet n (violated k b) h = rw (lt-ltb n k h)

pub by_now : (n : ℕ) (d : Decision) → decision_period d ≤ n → decided_by n d ≡ d
by_now n undecided h = refl
by_now n (satisfied k) h = rw (le-ltb n k h)
by_now n (violated k b) h = rw (le-ltb n k h)

not_at_start : (n : ℕ) (d : Decision) → Within n d → decided_by 0 d ≡ undecided
not_at_start n undecided p = refl
not_at_start n (satisfied k) p = not_yet 0 (satisfied k) p.0
not_at_start n (violated k b) p = not_yet 0 (violated k b) p.0

pub within_period : (n : ℕ) (d : Decision) → Within n d → decision_period d ≤ n
within_period n undecided p = zero-le
within_period n (satisfied k) p = p.1
within_period n (violated k b) p = p.1

-- of two violations, the one that comes first
pub data Order (j k : ℕ) (b c : Parties) : Decision → Type 0 where
  left_first : j < k → Order j k b c (violated j b)
  right_first : k < j → Order j k b c (violated k c)
  together : j ≡ k → Order j k b c (violated j (unite b c))

pub order : (j k : ℕ) (b c : Parties) → Order j k b c (earlier j b k c)
order j k b c = go (lt_or_le j k) (lt_or_le k j)
  where
    go : (j < k) ⊎ (k ≤ j) → (k < j) ⊎ (j ≤ k) → Order j k b c (earlier j b k c)
    go (inl l) s = rw (lt-ltb j k l) (left_first l)
    go (inr l) (inl m) = rw (le-ltb j k l, lt-ltb k j m) (right_first m)
    go (inr l) (inr m) = rw (le-ltb j k l, le-ltb k j m) (together (omega arith))

by_violations : (n j k : ℕ) (b c : Parties) {d : Decision} → Order j k b c d → (n < j) ⊎ (j ≤ n) → (n < k) ⊎ (k ≤ n)
    → both_meaning (decided_by n (violated j b)) (decided_by n (violated k c)) ≡ decided_by n d
by_violations n j k b c (left_first l) (inl p) q = rw (lt-ltb n j p, lt-ltb n k (omega arith))
by_violations n j k b c (left_first l) (inr p) (inl q) = rw (le-ltb n j p, lt-ltb n k q)
by_violations n j k b c (left_first l) (inr p) (inr q) = rw (le-ltb n j p, le-ltb n k q, lt-ltb j k l)
by_violations n j k b c (right_first l) p (inl q) = rw (lt-ltb n k q, lt-ltb n j (omega arith))
by_violations n j k b c (right_first l) (inl p) (inr q) = rw (lt-ltb n j p, le-ltb n k q)
by_violations n j k b c (right_first l) (inr p) (inr q) = rw (le-ltb n j p, le-ltb n k q, le-ltb j k (omega arith), lt-ltb k j l)
by_violations n j k b c (together l) (inl p) q = rw (lt-ltb n j p, lt-ltb n k (omega arith))
by_violations n j k b c (together l) (inr p) q =
    rw (le-ltb n j p, le-ltb n k (omega arith), le-ltb j k (omega arith), le-ltb k j (omega arith))

by_satisfactions : (n j k : ℕ) → (n < j) ⊎ (j ≤ n) → (n < k) ⊎ (k ≤ n)
    → both_meaning (decided_by n (satisfied j)) (decided_by n (satisfied k)) ≡ decided_by n (both_meaning (satisfied j) (satisfied k))
by_satisfactions n j k (inl p) (inl q) = rw (lt-ltb n j p, lt-ltb n k q) (sym (not_yet n (both_meaning (satisfied j) (satisfied k)) (omega arith)))
by_satisfactions n j k (inl p) (inr q) = rw (lt-ltb n j p, le-ltb n k q) (sym (not_yet n (both_meaning (satisfied j) (satisfied k)) (omega arith)))
by_satisfactions n j k (inr p) (inl q) = rw (le-ltb n j p, lt-ltb n k q) (sym (not_yet n (both_meaning (satisfied j) (satisfied k)) (omega arith)))
by_satisfactions n j k (inr p) (inr q) = rw (le-ltb n j p, le-ltb n k q) (sym (by_now n (both_meaning (satisfied j) (satisfied k)) (omega arith)))

-- beside a violation a satisfied half says nothing, whether either has been decided or not
by_left : (t u : Bool) (j k : ℕ) (b : Parties)
    → both_meaning (cond t undecided (violated j b)) (cond u undecided (satisfied k)) ≡ cond t undecided (violated j b)
by_left true true j k b = refl
by_left true false j k b = refl
by_left false true j k b = refl
by_left false false j k b = refl

by_right : (t u : Bool) (j k : ℕ) (c : Parties)
    → both_meaning (cond t undecided (satisfied j)) (cond u undecided (violated k c)) ≡ cond u undecided (violated k c)
by_right true true j k c = refl
by_right true false j k c = refl
by_right false true j k c = refl
by_right false false j k c = refl

by_both : (n : ℕ) (a b : Decision) → both_meaning (decided_by n a) (decided_by n b) ≡ decided_by n (both_meaning a b)
by_both n undecided undecided = refl
by_both n undecided (satisfied k) = by_left true (ltb n k) 0 k both_parties
by_both n undecided (violated k c) = by_right true (ltb n k) 0 k c
by_both n (satisfied j) undecided = by_right (ltb n j) true j 0 both_parties
by_both n (satisfied j) (satisfied k) = by_satisfactions n j k (lt_or_le n j) (lt_or_le n k)
by_both n (satisfied j) (violated k c) = by_right (ltb n j) (ltb n k) j k c
by_both n (violated j b) undecided = by_left (ltb n j) true j 0 b
by_both n (violated j b) (satisfied k) = by_left (ltb n j) (ltb n k) j k b
by_both n (violated j b) (violated k c) = by_violations n j k b c (order j k b c) (lt_or_le n j) (lt_or_le n k)

-- what reads from period k + 1 has decided nothing before period k, and then what it has decided by itself
by_early : (n k : ℕ) (d : Decision) → n < k → decided_by n (later k d) ≡ undecided
by_early n k undecided h = refl
by_early n k (satisfied j) h = rw (lt-ltb n (k + j) (omega arith))
by_early n k (violated j b) h = rw (lt-ltb n (k + j) (omega arith))

shifted : (n k j : ℕ) → k ≤ n → ltb (n - k) j ≡ ltb n (k + j)
shifted n k j h = go (lt_or_le n (k + j))
  where
    go : (n < k + j) ⊎ (k + j ≤ n) → ltb (n - k) j ≡ ltb n (k + j)
    go (inl l) = rw (lt-ltb n (k + j) l) (lt-ltb (n - k) j (omega arith))
    go (inr l) = rw (le-ltb n (k + j) l) (le-ltb (n - k) j (omega arith))

-- a function with nothing decided at z, applied to z or x by a test
through : {A : Type 0} (f : A → Decision) (z : A) → f z ≡ undecided → (t : Bool) (x : A) → f (cond t z x) ≡ cond t undecided (f x)
through f z e true x = e
through f z e false x = refl

by_later : (n k : ℕ) (d : Decision) → k ≤ n → later k (decided_by (n - k) d) ≡ decided_by n (later k d)
by_later n k undecided h = refl
by_later n k (satisfied j) h = rw (← shifted n k j h) (through (later k) undecided refl (ltb (n - k) j) (satisfied j))
by_later n k (violated j b) h = rw (← shifted n k j h) (through (later k) undecided refl (ltb (n - k) j) (violated j b))

-- a meaning that says of the first n periods what it has decided by period n
abbrev pub Stable : (List Period → Decision) → Type 0
Stable m = (n : ℕ) (w : List Period) → m (take n w) ≡ decided_by n (m w)

-- Handing over: a part that reads from period k + 1 of a list, and of its first n periods.
module _ (m₁ m₂ : List Period → Decision) (n : ℕ) (w : List Period) where
  abbrev RightStable : ℕ → Type 0
  RightStable k = k ≤ n → m₁ (take (n - k) (drop k w)) ≡ decided_by (n - k) (m₂ (drop k w))

  by_after : (k : ℕ) → RightStable k → cond (ltb n k) undecided (after m₁ (take n w) k) ≡ decided_by n (after m₂ w k)
  by_after k right = go (lt_or_le n k)
    where
      go : (n < k) ⊎ (k ≤ n) → cond (ltb n k) undecided (after m₁ (take n w) k) ≡ decided_by n (after m₂ w k)
      go (inl l) = rw (lt-ltb n k l) (sym (by_early n k (m₂ (drop k w)) l))
      go (inr l) = rw (le-ltb n k l, drop-take k n w, right l) (by_later n k (m₂ (drop k w)) l)

  by_then : (d : Decision) → ((k : ℕ) → d ≡ satisfied k → RightStable k)
      → then_meaning (decided_by n d) (after m₁ (take n w)) ≡ decided_by n (then_meaning d (after m₂ w))
  by_then undecided right = refl
  by_then (satisfied k) right =
      through (λ d. then_meaning d (after m₁ (take n w))) undecided refl (ltb n k) (satisfied k) ∙ by_after k (right k refl)
  by_then (violated k b) right = through (λ d. then_meaning d (after m₁ (take n w))) undecided refl (ltb n k) (violated k b)

  by_repair : (d : Decision) → ((k : ℕ) → RightStable k)
      → repair_meaning (decided_by n d) (after m₁ (take n w)) ≡ decided_by n (repair_meaning d (after m₂ w))
  by_repair undecided right = refl
  by_repair (satisfied k) right = through (λ d. repair_meaning d (after m₁ (take n w))) undecided refl (ltb n k) (satisfied k)
  by_repair (violated k b) right =
      through (λ d. repair_meaning d (after m₁ (take n w))) undecided refl (ltb n k) (violated k b) ∙ by_after k (right k)

  by_when : (r : Reading) → ((k : ℕ) → RightStable k)
      → when_meaning (reading_by n r) (after m₁ (take n w)) ≡ decided_by n (when_meaning r (after m₂ w))
  by_when pending right = refl
  by_when (accepted k) right =
      through (λ r. when_meaning r (after m₁ (take n w))) pending refl (ltb n k) (accepted k) ∙ by_after k (right k)
  by_when (rejected k) right = through (λ r. when_meaning r (after m₁ (take n w))) pending refl (ltb n k) (rejected k)

-- Until: the clause's decision counts up to acceptance.
module _ (n k : ℕ) (d : Decision) (counts : no_later k d ≡ cond (leb (decision_period d) k) d (satisfied k)) where
  by_decided : (n < k) ⊎ (k ≤ n) → (k < decision_period d) ⊎ (decision_period d ≤ k) → (n < decision_period d) ⊎ (decision_period d ≤ n)
      → until_meaning (decided_by n d) (happened_by n (some k)) ≡ decided_by n (no_later k d)
  by_decided (inl l) (inl p) q =
      rw (lt-ltb n k l, counts, lt-leb (decision_period d) k p, lt-ltb n k l) (not_yet n d (omega arith))
  by_decided (inl l) (inr p) q = rw (lt-ltb n k l, counts, le-leb (decision_period d) k p)
  by_decided (inr l) (inl p) (inl q) = rw (le-ltb n k l, counts, lt-leb (decision_period d) k p, le-ltb n k l, not_yet n d q)
  by_decided (inr l) (inl p) (inr q) = rw (le-ltb n k l, by_now n d q, counts, lt-leb (decision_period d) k p, le-ltb n k l)
  by_decided (inr l) (inr p) q = rw (le-ltb n k l, by_now n d (omega arith), counts, le-leb (decision_period d) k p, by_now n d (omega arith))

by_accepted : (n k : ℕ) (d : Decision) → until_meaning (decided_by n d) (happened_by n (some k)) ≡ decided_by n (no_later k d)
by_accepted n k undecided = elim (ltb n k) as (λ t. until_meaning undecided (cond t none (some k)) ≡ cond t undecided (satisfied k)) [ true ↦ refl | false ↦ refl ]
by_accepted n k (satisfied j) = by_decided n k (satisfied j) refl (lt_or_le n k) (lt_or_le k j) (lt_or_le n j)
by_accepted n k (violated j b) = by_decided n k (violated j b) refl (lt_or_le n k) (lt_or_le k j) (lt_or_le n j)

by_until : (n : ℕ) (d : Decision) (a : Option ℕ) → until_meaning (decided_by n d) (happened_by n a) ≡ decided_by n (until_meaning d a)
by_until n d none = refl
by_until n d (some k) = by_accepted n k d

-- Repeat: every allowance that covers the periods gives the same.
module _ (m : List Period → Decision) (bounded : (w : List Period) → Within (length w) (m w)) (stable : Stable m) where
  repeat_none : (f : ℕ) (w : List Period) → length w ≤ 0 → repeat_meaning m f w ≡ undecided
  unfolding repeat_meaning
  repeat_none zero w h = refl
  repeat_none (suc f) w h =
      let e : length w ≡ 0 = omega arith in
      rw (within_none (m w) (subst (λ (n : ℕ). Within n (m w)) e (bounded w)))

  by_turn : (f g n : ℕ) (w : List Period) → ((k : ℕ) → m w ≡ satisfied k → RightStable (repeat_meaning m g) (repeat_meaning m f) n w k)
      → repeat_meaning m (suc g) (take n w) ≡ decided_by n (repeat_meaning m (suc f) w)
  unfolding repeat_meaning
  by_turn f g n w right = rw (stable n w) (by_then (repeat_meaning m g) (repeat_meaning m f) n w (m w) right)

  -- a satisfaction uses up a period of the whole list and of its beginning
  used : (f g n k : ℕ) (w : List Period) → m w ≡ satisfied k → k ≤ n → length w ≤ suc f → length (take n w) ≤ suc g
      → (length (drop k w) ≤ f) × (length (take (n - k) (drop k w)) ≤ g)
  used f g n k w e h p q =
      let b : Within (length w) (satisfied k) = rw e at (bounded w) in (
        rw length-drop (omega arith),
        rw (length-take, length-drop) (omega (arith, rw length-take at q)),
      )

  pub by_repeat : (f g n : ℕ) (w : List Period) → length w ≤ f → length (take n w) ≤ g
      → repeat_meaning m g (take n w) ≡ decided_by n (repeat_meaning m f w)
  unfolding repeat_meaning
  by_repeat zero g n w p q = repeat_none g (take n w) (rw length-take (omega arith))
  by_repeat (suc f) zero n w p q =
      sym (repeat_none (suc zero) (take n w) q)
      ∙ by_turn f zero n w (λ k e h. let u = used f zero n k w e h p (omega arith) in by_repeat f zero (n - k) (drop k w) u.0 u.1)
  by_repeat (suc f) (suc g) n w p q =
      by_turn f g n w (λ k e h. let u = used f g n k w e h p q in by_repeat f g (n - k) (drop k w) u.0 u.1)

literal_by_now : (l : Literal) (s t : Bool) (n : ℕ) → literal_decision l s t ≡ decided_by (suc n) (literal_decision l s t)
literal_by_now l s t n = sym (by_now (suc n) (literal_decision l s t) (within_period (suc n) (literal_decision l s t) (within_literal l s t n)))

stable_literal : (l : Literal) (a : ℕ) → Stable (meaning (literal l a))
unfolding meaning
stable_literal l a zero [] = refl
stable_literal l a zero (x ∷ w) =
    sym (not_at_start 1 (literal_meaning l a (x ∷ w)) (within_literal l (tries x (tested_first l) a) (tries x (other (tested_first l)) a) 0))
stable_literal l a (suc n) [] = refl
stable_literal l a (suc n) (x ∷ w) = literal_by_now l (tries x (tested_first l) a) (tries x (other (tested_first l)) a) n

stable_deadline : (p : Party) (a d : ℕ) → Stable (meaning (deadline p a d))
unfolding meaning
stable_deadline p a zero n w = rw (deadline_none p a w, deadline_none p a (take n w)) (stable_literal (duty (only p)) a n w)
stable_deadline p a (suc zero) n w = rw (deadline_one p a w, deadline_one p a (take n w)) (stable_literal (duty (only p)) a n w)
stable_deadline p a (suc (suc d)) n w =
    rw (deadline_more p a d w, deadline_more p a d (take n w), stable_literal (duty (only p)) a n w)
    (by_repair (meaning (deadline p a (suc d))) (meaning (deadline p a (suc d))) n w (meaning (literal (duty (only p)) a) w)
    (λ k h. stable_deadline p a (suc d) (n - k) (drop k w)))

-- what a clause means on the first n periods is what it has decided by period n
pub stable : (c : Clause) → EmptyFree c → Stable (meaning c)
unfolding meaning EmptyFree
stable (literal l a) g n w = stable_literal l a n w
stable (deadline p a d) g n w = stable_deadline p a d n w
stable (both l r) g n w = rw (stable l g.0 n w, stable r g.1 n w) (by_both n (meaning l w) (meaning r w))
stable (then l r) g n w =
    rw (stable l g.0 n w) (by_then (meaning r) (meaning r) n w (meaning l w) (λ k e h. stable r g.1 (n - k) (drop k w)))
stable (repair l r) g n w =
    rw (stable l g.0 n w) (by_repair (meaning r) (meaning r) n w (meaning l w) (λ k h. stable r g.1 (n - k) (drop k w)))
stable (repeat c) g n w =
    by_repeat (meaning c) (decision_within c g) (stable c g) (length w) (length (take n w)) n w (le_refl (length w)) (le_refl (length (take n w)))
stable (when e c) g n w =
    rw (reading-take e w n) (by_when (meaning c) (meaning c) n w (reading e w) (λ k h. stable c g.1 (n - k) (drop k w)))
stable (until c e) g n w = rw (stable c g.0 n w, acceptance-take e g.1 n w) (by_until n (meaning c w) (acceptance e w))
