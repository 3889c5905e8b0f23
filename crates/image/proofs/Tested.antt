-- How the tests of an expression, "in the set" and "begins a list of the set", come out on a list by its reading, where the list is read only
-- until acceptance.
use Prim.Native.Nat.{ℕ, ◌≤◌, ◌<◌}
use native.Mathlib.Omega.{arith}
use mathlib.Core.Bool.{Bool, true, false, not, ◌&&◌, false≢true, not-eq-not}
use mathlib.Core.List.{List, [], ◌∷◌, ◌++◌, append_assoc, append-nil}
use mathlib.Core.Logic.{◌⊎◌, inl, inr}
use mathlib.Core.Path.{◌≡◌, refl, sym, ap, ◌∙◌}
use borrow.Author.Tests.{lt-ltb, le-ltb, eq-eqb, ne_eqb}
use lib.ListN.{length, take, drop, take-append-drop}
use lib.Seq.{take_all, take-length}
use Rattle.records.proofs.Cases.{lt_or_le}
use Rattle.periods.specs.Periods.{Period}
use Rattle.contract.specs.Expressions.{Expression, Holds, member, begins}
use Rattle.contract.specs.Readings.{AcceptedAt, RejectedAt, Reading, pending, accepted, rejected, judged, first, reading_to, reading}
use Rattle.contract.proofs.Expressions.{member_iff, begins_iff}
use Rattle.contract.proofs.Readings.{accepted_iff, rejected_iff, accepted_at}
use Rattle.image.proofs.Once.{is_at}
use Rattle.image.proofs.Threads.{unless_past}
use Rattle.image.proofs.Expressions.{held_by, begins_by}

abbrev pub is_pending : Reading → Bool
is_pending pending = true
is_pending (accepted k) = false
is_pending (rejected k) = false

-- what n periods show, and what the two tests tell of them; of what was accepted before its last period they tell nothing
pub data Tested (n : ℕ) : Reading → (held begins : Bool) → Type 0 where
  goes_on : Tested n pending false true
  accepted_last : Tested n (accepted n) true true
  accepted_before : {k : ℕ} → k < n → Tested n (accepted k) false false
  rejected_by_now : {k : ℕ} → k ≤ n → Tested n (rejected k) false false

-- accepted now: the list is in the set
pub accepted_now : {n : ℕ} {r : Reading} {m b : Bool} → Tested n r m b → m ≡ is_at (accepted_at r) n
accepted_now goes_on = refl
accepted_now {n} accepted_last = sym (eq-eqb n n refl)
accepted_now {n} (accepted_before {k} l) = sym (ne_eqb k n (λ i. omega arith))
accepted_now (rejected_by_now l) = refl

-- pending: the list is not in the set and begins a list of it
pub pending_now : {n : ℕ} {r : Reading} {m b : Bool} → Tested n r m b → (not m && b) ≡ is_pending r
pending_now goes_on = refl
pending_now accepted_last = refl
pending_now (accepted_before l) = refl
pending_now (rejected_by_now l) = refl

still_pending : (n : ℕ) (r : Reading) (m b : Bool) → is_pending (first r (judged m b n)) ≡ true → Tested n pending m b
still_pending n pending true b h = absurd (false≢true h)
still_pending n pending false true h = goes_on
still_pending n pending false false h = absurd (false≢true h)
still_pending n (accepted k) m b h = absurd (false≢true h)
still_pending n (rejected k) m b h = absurd (false≢true h)

module _ (e : Expression) where
  -- the tests of a list that shows r, read as long as it is not accepted
  abbrev pub TestedAs : Reading → List Period → Type 0
  TestedAs r w = let read = unless_past (accepted_at r) w in Tested (length w) r (held_by e read) (begins_by e read)

  -- what a list shows last is what its tests tell
  last_shown : (w : List Period) → (r : Reading) × (reading e w ≡ first r (judged (member e w) (begins e w) (length w)))
  unfolding reading reading_to
  last_shown [] = (pending, refl)
  last_shown (x ∷ w) = (reading_to e (x ∷ w) (length w), rw (take-length w))

  held_begins : (w : List Period) → Holds e w → begins e w ≡ true
  held_begins w h = (begins_iff e w).1 ([], rw append-nil h)

  tested-accepted : (w : List Period) (k : ℕ) → AcceptedAt e w k → TestedAs (accepted k) w
  tested-accepted w k a = go (lt_or_le k (length w))
    where
      go : (k < length w) ⊎ (length w ≤ k) → TestedAs (accepted k) w
      go (inl l) = rw (lt-ltb k (length w) l) (accepted_before l)
      go (inr l) =
          let held : Holds e w = rw (take_all k w l) at a.held in
          let last : length w ≡ k = omega (arith, a.within) in
          rw (le-ltb k (length w) l, (member_iff e w).1 held, held_begins w held, ← last) accepted_last

  tested_rejected : (w : List Period) (k : ℕ) → RejectedAt e w k → TestedAs (rejected k) w
  tested_rejected w k d =
      let longer : (v : List Period) → take k w ++ (drop k w ++ v) ≡ w ++ v = λ v. rw (← append_assoc (take k w), take-append-drop k w) in
      let ended : ¬ (begins e w ≡ true) = λ b. let h = (begins_iff e w).0 b in d.dead (drop k w ++ h.0) (rw (longer h.0) h.1) in
      let unheld : ¬ (member e w ≡ true) = λ m. ended (held_begins w ((member_iff e w).0 m)) in
      rw ((not-eq-not {b = false}).0 unheld, (not-eq-not {b = false}).0 ended) (rejected_by_now d.within)

  pub tested : (w : List Period) → TestedAs (reading e w) w
  tested w = go (reading e w) refl
    where
      go : (r : Reading) → reading e w ≡ r → TestedAs r w
      go pending h = let s = last_shown w in still_pending (length w) s.0 (member e w) (begins e w) (ap is_pending (sym s.1 ∙ h))
      go (accepted k) h = tested-accepted w k ((accepted_iff e w k).0 h)
      go (rejected k) h = tested_rejected w k ((rejected_iff e w k).0 h)
