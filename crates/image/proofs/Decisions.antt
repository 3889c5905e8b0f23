-- A clause decides once, and says so then; an expression is accepted once.
use Prim.Native.Nat.{ℕ, ◌≤◌, ◌<◌}
use mathlib.Core.Bool.{Bool, true, false, cond, ◌||◌}
use mathlib.Core.List.{List, []}
use mathlib.Core.Logic.{◌⊎◌, inl, inr}
use mathlib.Core.Option.{Option, none, some}
use mathlib.Core.Path.{◌≡◌, refl, sym, ◌∙◌}
use borrow.Author.Tests.{lt-ltb, le-ltb}
use lib.Dec.{eqb}
use lib.ListN.{length}
use Rattle.records.proofs.Cases.{lt_or_le}
use Rattle.periods.specs.declared.Party.TheVariants.{One as party1, Two as party2}
use Rattle.periods.specs.Periods.{Period}
use Rattle.contract.specs.Expressions.{Expression, Holds}
use Rattle.contract.specs.Readings.{Reading, pending, accepted, rejected, reading}
use Rattle.contract.specs.Meaning.{Clause, Decision, undecided, satisfied, violated, meaning, EmptyFree}
use Rattle.contract.specs.Verdicts.{decision_period}
use Rattle.contract.proofs.Readings.{reading-take, Between, happened_by, accepted_at, accepted_by_then}
use Rattle.contract.proofs.Meaning.{decided_by, Within, decision_within, ReadWithin, within-reading, not_yet, by_now, stable}
use Rattle.image.proofs.Signals.{Report, nothing, met, broken, is_met, is_broken, report_of}
use Rattle.image.proofs.Once.{Once, is_at, happens, once_by}
use Rattle.image.proofs.Reports.{now, said_by, someone_blamed, period_if, is_violation, satisfied_at, violated_at, decided_at}

-- ---- decisions

between_if : (n k : ℕ) (b : Bool) → (1 ≤ k) × (k ≤ n) → Between n (cond b (some k) none)
between_if n k true h = h
between_if n k false h = tt

-- a test of reports that no decision fails
module _ (test : Report → Bool) (silent : test nothing ≡ false) where
  if_by : (n : ℕ) (d : Decision) → period_if test (decided_by n d) ≡ happened_by n (period_if test d)
  if_by n d = go (lt_or_le n (decision_period d)) (test (report_of d)) refl
    where
      go : (n < decision_period d) ⊎ (decision_period d ≤ n) → (b : Bool) → test (report_of d) ≡ b
          → period_if test (decided_by n d) ≡ happened_by n (period_if test d)
      go (inl l) true e = rw (not_yet n d l, silent, e, lt-ltb n (decision_period d) l)
      go (inl l) false e = rw (not_yet n d l, silent, e)
      go (inr l) true e = rw (by_now n d l, e, le-ltb n (decision_period d) l)
      go (inr l) false e = rw (by_now n d l, e)

  if_between : (n : ℕ) (d : Decision) → Within n d → Between n (period_if test d)
  if_between n undecided b = rw silent tt
  if_between n (satisfied k) b = between_if n k (test met) b
  if_between n (violated k x) b = between_if n k (test (broken x)) b

  once_if : (c : Clause) → EmptyFree c → Once (λ w. period_if test (meaning c w))
  once_if c g =
      once_by (λ w. period_if test (meaning c w)) (λ n w. rw (stable c g n w) (if_by n (meaning c w)))
      (λ w. if_between (length w) (meaning c w) (decision_within c g w))

  -- a report in its own period
  in_period : (s : Report) (k n : ℕ) → test (cond (eqb k n) s nothing) ≡ is_at (cond (test s) (some k) none) n
  in_period s k n = go (eqb k n) refl (test s) refl
    where
      go : (e : Bool) → eqb k n ≡ e → (b : Bool) → test s ≡ b → test (cond e s nothing) ≡ is_at (cond b (some k) none) n
      go true i true j = j ∙ sym i
      go true i false j = j
      go false i true j = silent ∙ sym i
      go false i false j = silent

  if_now : (n : ℕ) (d : Decision) → test (now n d) ≡ is_at (period_if test d) n
  if_now n undecided = rw silent
  if_now n (satisfied k) = in_period met k n
  if_now n (violated k x) = in_period (broken x) k n

  if_happens : (c : Clause) (t : Option (List Period)) → test (said_by c t) ≡ happens (λ w. period_if test (meaning c w)) t
  if_happens c none = silent
  if_happens c (some w) = if_now (length w) (meaning c w)

pub once_satisfied : (c : Clause) → EmptyFree c → Once (λ w. satisfied_at (meaning c w))
once_satisfied = once_if is_met refl

pub once_violated : (c : Clause) → EmptyFree c → Once (λ w. violated_at (meaning c w))
once_violated = once_if is_violation refl

pub once_decided : (c : Clause) → EmptyFree c → Once (λ w. decided_at (meaning c w))
once_decided = once_if (λ s. is_met s || is_violation s) refl

-- a report is a violation where it blames one of the two parties
blames_one : (s : Report) → (is_broken party1 s || is_broken party2 s) ≡ is_violation s
blames_one nothing = refl
blames_one met = refl
blames_one (broken b) = someone_blamed b

-- the clause says that it is satisfied, that it is violated, that it is one of the two, when that happens
pub met_happens : (c : Clause) (t : Option (List Period)) → is_met (said_by c t) ≡ happens (λ w. satisfied_at (meaning c w)) t
met_happens = if_happens is_met refl

pub broken_happens : (c : Clause) (t : Option (List Period))
    → (is_broken party1 (said_by c t) || is_broken party2 (said_by c t)) ≡ happens (λ w. violated_at (meaning c w)) t
broken_happens c t = blames_one (said_by c t) ∙ if_happens is_violation refl c t

pub decided_happens : (c : Clause) (t : Option (List Period))
    → (is_met (said_by c t) || (is_broken party1 (said_by c t) || is_broken party2 (said_by c t))) ≡ happens (λ w. decided_at (meaning c w)) t
decided_happens c t = rw (blames_one (said_by c t)) (if_happens (λ s. is_met s || is_violation s) refl c t)

-- ---- acceptances

accepted_between : (n : ℕ) (r : Reading) → ReadWithin n r → Between n (accepted_at r)
accepted_between n pending b = tt
accepted_between n (accepted k) b = b
accepted_between n (rejected k) b = tt

pub once_accepted : (e : Expression) → ¬ Holds e [] → Once (λ w. accepted_at (reading e w))
once_accepted e g =
    once_by (λ w. accepted_at (reading e w)) (λ n w. rw (reading-take e w n) (accepted_by_then n (reading e w)))
    (λ w. accepted_between (length w) (reading e w) (within-reading e w g))
