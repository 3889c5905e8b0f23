-- Parts that stop when the whole has decided: as long as it has not, what the parts have said by then gives what the whole says.
use Prim.Native.Nat.{ℕ}
use native.Mathlib.Omega.{arith}
use mathlib.Core.Bool.{◌||◌}
use mathlib.Core.List.{List, [], ◌∷◌}
use mathlib.Core.Logic.{⊎_elim}
use mathlib.Core.Option.{Option, none, some}
use mathlib.Core.Path.{◌≡◌, refl, sym}
use borrow.Author.Tests.{lt-ltb, le-ltb}
use lib.ListN.{length}
use Rattle.records.proofs.Cases.{lt_or_le}
use Rattle.periods.specs.Periods.{Period}
use Rattle.contract.specs.Meaning.{Clause, Decision, undecided, satisfied, violated, meaning, EmptyFree}
use Rattle.contract.specs.Verdicts.{decision_period}
use Rattle.image.proofs.Signals.{Signal, at, ◌≐◌, nothing, Says, exactly, UntilDone}
use Rattle.image.proofs.Once.{happens}
use Rattle.image.proofs.Threads.{thread, unless_past, cut, cut_off}
use Rattle.image.proofs.Reports.{decided_at, said_by, NotBefore, silent_past}
use Rattle.image.proofs.Decisions.{once_decided, decided_happens}
use Rattle.image.proofs.Behaviour.{Behaves}

decided_at_lem : (d : Decision) (k : ℕ) → decided_at d ≡ some k → decision_period d ≡ k
decided_at_lem undecided k e = cc
decided_at_lem (satisfied j) k e = cc
decided_at_lem (violated j b) k e = cc

-- the clause has decided nothing before the last period of what has been read
abbrev pub Unfinished : Clause → Option (List Period) → Type 0
Unfinished c none = Unit {0}
Unfinished c (some w) = NotBefore (length w) (decided_at (meaning c w))

-- on what is left of a list the clause is unfinished, and says what it says on the list
cut_unfinished : (c : Clause) (t : Option (List Period))
    → (said_by c (cut (λ w. decided_at (meaning c w)) t) ≡ said_by c t) × Unfinished c (cut (λ w. decided_at (meaning c w)) t)
cut_unfinished c none = (refl, tt)
cut_unfinished c (some w) = go (decided_at (meaning c w)) refl
  where
    go : (o : Option ℕ) → decided_at (meaning c w) ≡ o → (said_by c (unless_past o w) ≡ said_by c (some w)) × Unfinished c (unless_past o w)
    go none e = (refl, rw e tt)
    go (some k) e =
        ⊎_elim (λ l. rw (lt-ltb k (length w) l) (sym (silent_past (length w) (meaning c w) (omega (arith, decided_at_lem (meaning c w) k e))), tt))
        (λ l. rw (le-ltb k (length w) l) (refl, rw e l))
        (lt_or_le k (length w))

nothing_read : (S K : Signal) → thread S K [] ≡ none
unfolding thread
nothing_read S K = refl

-- it is enough that the signals say what the clause says on what its parts have read, as long as the clause is unfinished there
pub stops : {c : Clause} {S K go done sat one two : Signal} → EmptyFree c → UntilDone done K go
    → (done ≐ λ p h. sat p h || (one p h || two p h))
    → ((p : Period) (h : List Period) → Unfinished c (thread S go (p ∷ h))
    → Says (sat p h) (one p h) (two p h) (said_by c (thread S go (p ∷ h))))
    → Behaves c S K sat one two
stops {c} {S} {K} {go} {done} {sat} {one} {two} g u done-is right =
    record { says = λ h. says_at h (cut_off (once_decided c g) S u done_at h) }
  where
    says_at : (h : List Period) → thread S go h ≡ cut (λ w. decided_at (meaning c w)) (thread S K h)
        → Says (at sat h) (at one h) (at two h) (said_by c (thread S K h))
    says_at [] i = rw (nothing_read S K) (exactly nothing)
    says_at (p ∷ h) i = let v = cut_unfinished c (thread S K (p ∷ h)) in rw (← v.0, ← i) (right p h (rw i v.1))

    done_at : (h : List Period) → thread S go h ≡ cut (λ w. decided_at (meaning c w)) (thread S K h)
        → at done h ≡ happens (λ w. decided_at (meaning c w)) (thread S K h)
    done_at [] i = rw (nothing_read S K)
    done_at (p ∷ h) i =
        let s = says_at (p ∷ h) i in
        rw (done-is p h, s.sat_is, s.one_is, s.two_is) (decided_happens c (thread S K (p ∷ h)))
