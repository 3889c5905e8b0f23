-- What a clause says in a period: its decision, if it falls there.
use Prim.Native.Nat.{ℕ, ◌+◌, ◌≤◌, ◌<◌}
use native.Mathlib.Omega.{arith}
use mathlib.Core.Bool.{Bool, true, false, cond, ◌||◌}
use mathlib.Core.List.{List}
use mathlib.Core.Option.{Option, none, some}
use mathlib.Core.Path.{◌≡◌, refl, ap}
use borrow.Author.Tests.{eqb-true, eqb-false, eq-eqb, ne_eqb}
use lib.Dec.{eqb}
use lib.ListN.{length}
use Rattle.periods.specs.declared.Party.{Party}
use Rattle.periods.specs.declared.Party.TheVariants.{One as party1, Two as party2}
use Rattle.periods.specs.Periods.{Period}
use Rattle.contract.specs.Meaning.{Parties, only, both_parties, Clause, Decision, undecided, satisfied, violated, later, meaning}
use Rattle.contract.specs.Verdicts.{decision_period}
use Rattle.contract.proofs.Meaning.{Within}
use Rattle.image.proofs.Signals.{Report, nothing, met, broken, is_met, blames, is_broken, report_of}

-- a decision in period n
abbrev pub now : ℕ → Decision → Report
now n undecided = nothing
now n (satisfied k) = cond (eqb k n) met nothing
now n (violated k b) = cond (eqb k n) (broken b) nothing

-- the decision of a meaning in the last period of what has been read, if anything has
abbrev pub now_by : (List Period → Decision) → Option (List Period) → Report
now_by m none = nothing
now_by m (some w) = now (length w) (m w)

-- what a clause says in that period
abbrev pub said_by : Clause → Option (List Period) → Report
said_by c = now_by (meaning c)

-- a satisfaction is no violation, and a violation no satisfaction
pub unbroken : (q : Party) (t : Bool) → is_broken q (cond t met nothing) ≡ false
unbroken q true = refl
unbroken q false = refl

pub unmet : (b : Parties) (t : Bool) → is_met (cond t (broken b) nothing) ≡ false
unmet b true = refl
unmet b false = refl

-- a violation blames someone
pub someone_blamed : (b : Parties) → (blames party1 b || blames party2 b) ≡ true
someone_blamed (only party1) = refl
someone_blamed (only party2) = refl
someone_blamed both_parties = refl

eqb-add : (m j k : ℕ) → eqb (m + j) (m + k) ≡ eqb j k
eqb-add m j k = go (eqb j k) refl
  where
    go : (t : Bool) → eqb j k ≡ t → eqb (m + j) (m + k) ≡ t
    go true e = eq-eqb (m + j) (m + k) (ap (λ (i : ℕ). m + i) (eqb-true j k e))
    go false e = ne_eqb (m + j) (m + k) (λ i. eqb-false j k e (omega arith))

-- what reads after m periods says it m periods later
pub now_later : (m n : ℕ) (d : Decision) → now (m + n) (later m d) ≡ now n d
now_later m n undecided = refl
now_later m n (satisfied k) = rw (eqb-add m k n)
now_later m n (violated k b) = rw (eqb-add m k n)

-- ---- the period in which a decision falls

-- that of a decision whose report passes a test
abbrev pub period_if : (Report → Bool) → Decision → Option ℕ
period_if test d = cond (test (report_of d)) (some (decision_period d)) none

abbrev pub is_violation : Report → Bool
is_violation nothing = false
is_violation met = false
is_violation (broken b) = true

abbrev pub satisfied_at : Decision → Option ℕ
satisfied_at = period_if is_met

abbrev pub violated_at : Decision → Option ℕ
violated_at = period_if is_violation

abbrev pub decided_at : Decision → Option ℕ
decided_at = period_if (λ s. is_met s || is_violation s)

-- a period, if there is one, that is not before period n
abbrev pub NotBefore : ℕ → Option ℕ → Type 0
NotBefore n none = Unit {0}
NotBefore n (some k) = n ≤ k

-- a decision that was not made before period n says what it is, and one that was says nothing more
pub timely : (n : ℕ) (d : Decision) → Within n d → NotBefore n (decided_at d) → now n d ≡ report_of d
timely n undecided p q = refl
timely n (satisfied k) p q = rw (eq-eqb k n (omega arith))
timely n (violated k b) p q = rw (eq-eqb k n (omega arith))

pub silent_past : (n : ℕ) (d : Decision) → decision_period d < n → now n d ≡ nothing
silent_past n undecided l = refl
silent_past n (satisfied k) l = rw (ne_eqb k n (λ e. omega arith))
silent_past n (violated k b) l = rw (ne_eqb k n (λ e. omega arith))
