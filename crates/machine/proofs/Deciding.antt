-- What the values of S, V1 and V2 decide, as the code computes it.
use Prim.Native.Nat.{ℕ}
use native.Mathlib.Omega.{arith}
use mathlib.Core.Bool.{Bool, true, false, ◌||◌, cond}
use mathlib.Core.Path.{◌≡◌, refl}
use Rattle.machine.specs.Machine.{outcome_of}

-- a decision period is written where the outcome is not 0
pub decision_none : (s a b : Bool) (n : ℕ) → outcome_of s a b ≡ 0 → cond (s || a || b) n 0 ≡ 0
decision_none true true b n e = absurd (omega arith)
decision_none true false true n e = absurd (omega arith)
decision_none true false false n e = absurd (omega arith)
decision_none false true b n e = absurd (omega arith)
decision_none false false true n e = absurd (omega arith)
decision_none false false false n e = refl

pub decision_some : (s a b : Bool) (n : ℕ) → ¬ (outcome_of s a b ≡ 0) → cond (s || a || b) n 0 ≡ n
decision_some true a b n e = refl
decision_some false true b n e = refl
decision_some false false true n e = refl
decision_some false false false n e = absurd (e refl)
