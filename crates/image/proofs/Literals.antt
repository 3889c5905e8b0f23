-- The block of a literal behaves: it decides on the first period that it reads, and says nothing after.
use Prim.Native.Nat.{ℕ, suc}
use native.Mathlib.Omega.{arith}
use mathlib.Core.Bool.{Bool, true, false}
use mathlib.Core.List.{List, [], ◌∷◌, ◌++◌}
use mathlib.Core.Option.{Option, none, some}
use mathlib.Core.Path.{◌≡◌, refl}
use lib.ListN.{length}
use Rattle.periods.specs.declared.Party.{Party}
use Rattle.periods.specs.Periods.{other, Period, tries}
use Rattle.contract.specs.Meaning.{Literal, literal, Decision, undecided, satisfied, violated, tested_first, meaning, EmptyFree}
use Rattle.contract.proofs.Meaning.{Within, decision_within, within_period}
use Rattle.image.proofs.Signals.{Signal, at, nothing, literal_report, Says, exactly}
use Rattle.image.proofs.Once.{length-snoc}
use Rattle.image.proofs.Threads.{not_empty, read_next, thread, thread_is_active}
use Rattle.image.proofs.Reports.{decided_at, said_by, NotBefore, timely, silent_past}
use Rattle.image.proofs.Behaviour.{Behaves}

-- a decision in period 1 is not before it
not_before_first : (d : Decision) → Within 1 d → NotBefore 1 (decided_at d)
not_before_first undecided b = tt
not_before_first (satisfied k) b = b.0
not_before_first (violated k x) b = b.0

module _ (l : Literal) (a : ℕ) where
  abbrev q : Party
  q = tested_first l

  within_first : (p : Period) → Within 1 (meaning (literal l a) (p ∷ []))
  unfolding EmptyFree
  within_first p = decision_within (literal l a) tt (p ∷ [])

  said_by_literal : (S K : Signal) (p : Period) (h : List Period)
      → said_by (literal l a) (thread S K (p ∷ h)) ≡ literal_report l (S p h) (tries p q a) (tries p (other q) a)
  unfolding thread meaning
  said_by_literal S K p h = go (S p h) (K p h) (thread S K h) refl
    where
      go : (s k : Bool) (t : Option (List Period)) → thread S K h ≡ t
          → said_by (literal l a) (read_next s k p t) ≡ literal_report l s (tries p q a) (tries p (other q) a)
      go true k t b = timely 1 (meaning (literal l a) (p ∷ [])) (within_first p) (not_before_first (meaning (literal l a) (p ∷ [])) (within_first p))
      go false false t b = refl
      go false true none b = refl
      go false true (some []) b = absurd ((not_empty (thread_is_active S K h [] b)).1 refl)
      go false true (some (x ∷ w)) b =
          silent_past (suc (length (w ++ (p ∷ [])))) (meaning (literal l a) (x ∷ []))
          (omega (arith, length-snoc w p, within_period 1 (meaning (literal l a) (x ∷ [])) (within_first x)))

pub behaves_literal : {l : Literal} {a : ℕ} {S K sat one two : Signal}
    → ((p : Period) (h : List Period)
    → Says (sat p h) (one p h) (two p h) (literal_report l (S p h) (tries p (tested_first l) a) (tries p (other (tested_first l)) a)))
    → Behaves (literal l a) S K sat one two
unfolding thread
behaves_literal {l} {a} {S} {K} {sat} {one} {two} e = record { says = says }
  where
    says : (h : List Period) → Says (at sat h) (at one h) (at two h) (said_by (literal l a) (thread S K h))
    says [] = exactly nothing
    says (p ∷ h) = rw (said_by_literal l a S K p h) (e p h)
