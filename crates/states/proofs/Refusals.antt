-- What passed tests of a state and of its count show. Document 01, "Replies that refuse".
use Prim.Native.Nat.{ℕ, ◌+◌, ◌-◌, ◌≤◌}
use mathlib.Core.Path.{◌≡◌, refl}
use mathlib.Core.Bool.{true}
use mathlib.Core.List.{List, [], ◌∷◌}
use lib.Dec.{eqb, leb}
use lib.ListN.{length}
use borrow.Author.Tests.{eqb-true, leb-true, le-leb}
use Rattle.records.specs.declared.Fault.{Fault}
use Rattle.records.specs.declared.Fault.TheVariants.{BadState, FullCount}
use Rattle.records.specs.Refusals.{Passed, require}
use Rattle.records.proofs.Refusals.{first_passed, require-passed, only_for, only_require, only_first}
use Rattle.states.specs.Limits.{head_bytes, max_periods}
use Rattle.states.specs.States.{state_of, sound}
use Rattle.states.specs.Refusals.{state_length_test, state_test, count_test}

pub length-passed : (n : ℕ) (l : List ℕ) → state_length_test n l ≡ Passed → length l ≡ head_bytes + n
length-passed n l e = eqb-true (length l) (head_bytes + n) (require-passed (eqb (length l) (head_bytes + n)) BadState 0 e)

pub state_passed : (n : ℕ) (l : List ℕ) → state_test n l ≡ Passed → (length l ≡ head_bytes + n) × (sound (state_of l) ≡ true)
unfolding state_test
state_passed n l e =
    let u = first_passed (state_length_test n l) (require (sound (state_of l)) BadState 0) e in (
      length-passed n l u.0,
      require-passed (sound (state_of l)) BadState 0 u.1,
    )

pub passed_count : (taken n : ℕ) → count_test taken n ≡ Passed → taken + n ≤ max_periods
unfolding count_test
passed_count taken n e = leb-true (taken + n) max_periods (require-passed (leb (taken + n) max_periods) FullCount (max_periods - taken) e)

pub passes_count : (taken n : ℕ) → taken + n ≤ max_periods → count_test taken n ≡ Passed
unfolding count_test
passes_count taken n h = rw (le-leb (taken + n) max_periods h)

-- no test of this crate gives another fault
abbrev pub state_faults : List Fault
state_faults = BadState ∷ []

abbrev pub count_faults : List Fault
count_faults = FullCount ∷ []

pub length_only : (n : ℕ) (l : List ℕ) → only_for state_faults (state_length_test n l) ≡ true
length_only n l = only_require state_faults BadState refl (eqb (length l) (head_bytes + n)) 0

pub state_only : (n : ℕ) (l : List ℕ) → only_for state_faults (state_test n l) ≡ true
unfolding state_test
state_only n l =
    only_first state_faults (state_length_test n l) (require (sound (state_of l)) BadState 0) (length_only n l) (only_require state_faults BadState refl (sound (state_of l)) 0)

pub count_only : (taken n : ℕ) → only_for count_faults (count_test taken n) ≡ true
unfolding count_test
count_only taken n = only_require count_faults FullCount refl (leb (taken + n) max_periods) (max_periods - taken)
