-- What it means that an expression is accepted or rejected at k on a list of periods, and the same as an executable reading: as `when` reads it,
-- document 01, "Expressions", from "It is accepted"; as `until` reads it, document 02, "An ending that may begin in any period".
use Rattle.std.specs.Prelude.{ℕ, zero, suc, ◌-◌, ◌≤◌, ◌<◌, Bool, true, false, ◌||◌, List, [], ◌∷◌, ◌++◌, length, take, drop}
use Rattle.std.proofs.Math.Option.{Option, none, some}
use Rattle.periods.specs.Periods.{Period}
use Rattle.contract.specs.Expressions.{Expression, Holds, member, begins}

-- ---- as `when` reads it, from its first period

-- no list at all that begins with w is in the set
abbrev pub Dead : Expression → List Period → Type 0
Dead e w = (v : List Period) → ¬ Holds e (w ++ v)

-- "It is accepted at the least k such that the first k periods are in the set."
pub record AcceptedAt (e : Expression) (w : List Period) (k : ℕ) : Type 0 where
  pub within : k ≤ length w
  pub held : Holds e (take k w)
  pub least : (j : ℕ) → j < k → ¬ Holds e (take j w)

-- "It is rejected at the least k such that no list at all that begins with those k periods is in the set, provided it wasn't
-- accepted before."
pub record RejectedAt (e : Expression) (w : List Period) (k : ℕ) : Type 0 where
  pub within : k ≤ length w
  pub dead : Dead e (take k w)
  pub least : (j : ℕ) → j < k → ¬ Dead e (take j w)
  pub unaccepted : (j : ℕ) → j < k → ¬ AcceptedAt e w j

-- what a list of periods shows of an expression
pub data Reading : Type 0 where
  pending : Reading
  accepted : ℕ → Reading
  rejected : ℕ → Reading

-- what the first k periods show by themselves, by the tests "in the set" and "begins a list of the set"
abbrev pub judged : Bool → Bool → ℕ → Reading
judged true b k = accepted k
judged false false k = rejected k
judged false true k = pending

-- what is shown first, stands
abbrev pub first : Reading → Reading → Reading
first pending r = r
first (accepted k) r = accepted k
first (rejected k) r = rejected k

-- what the first n periods of a list show, going from none of them to all n
unfoldable pub reading_to : Expression → List Period → ℕ → Reading
reading_to e w zero = judged (member e []) (begins e []) zero
reading_to e w (suc k) = first (reading_to e w k) (judged (member e (take (suc k) w)) (begins e (take (suc k) w)) (suc k))

-- what a list shows: accepted at k, rejected at k, or neither so far
unfoldable pub reading : Expression → List Period → Reading
reading e w = reading_to e w (length w)

-- ---- as `until` reads it, from any of its periods; it is never rejected

-- periods j to k of a list, counted from 1
abbrev pub stretch : (j k : ℕ) → List Period → List Period
stretch j k w = drop (j - 1) (take k w)

-- "the stretch from some period of this `until` to period k is in its set", the list being the periods of this `until`
pub record StretchTo (e : Expression) (w : List Period) (k : ℕ) : Type 0 where
  pub from : ℕ
  pub counted : 1 ≤ from
  pub reached : from ≤ k
  pub held : Holds e (stretch from k w)

-- "its expression is accepted at the least k such that the stretch from some period of this `until` to period k is in its set"
pub record AcceptedFromAny (e : Expression) (w : List Period) (k : ℕ) : Type 0 where
  pub within : k ≤ length w
  pub held : StretchTo e w k
  pub least : (j : ℕ) → j < k → ¬ StretchTo e w j

-- some stretch to the last period of a list is in the set: the whole list, or one that begins later
unfoldable pub ends : Expression → List Period → Bool
ends e [] = false
ends e (x ∷ w) = member e (x ∷ w) || ends e w

-- the period that was found before, otherwise period k if it passes the test
abbrev pub or_at : Option ℕ → (test : Bool) → ℕ → Option ℕ
or_at none true k = some k
or_at none false k = none
or_at (some j) test k = some j

-- at which of the first n periods of a list it is accepted, if at any
unfoldable pub acceptance_to : Expression → List Period → ℕ → Option ℕ
acceptance_to e w zero = none
acceptance_to e w (suc k) = or_at (acceptance_to e w k) (ends e (take (suc k) w)) (suc k)

-- at which period of a list it is accepted, if at any
unfoldable pub acceptance : Expression → List Period → Option ℕ
acceptance e w = acceptance_to e w (length w)
