-- A verdict is known by its number.
use Prim.Native.Nat.{ℕ, ◌≤◌}
use native.Mathlib.Omega.{arith}
use mathlib.Core.List.{[], ◌∷◌}
use mathlib.Core.Path.{◌≡◌, refl, sym, ap, ◌∙◌}
use lib.ListN.{get_or}
use Rattle.records.specs.declared.Verdict.{Verdict}
use Rattle.records.specs.declared.Verdict.TheVariants.{Open, Met, Broken, MetAfter, BrokenAfter}
use Rattle.records.specs.Verdicts.{verdict_number}

abbrev verdict_of : ℕ → Verdict
verdict_of n = get_or (Open ∷ Met ∷ Broken ∷ MetAfter ∷ []) n BrokenAfter

verdict_of_number : (v : Verdict) → verdict_of (verdict_number v) ≡ v
verdict_of_number Open = refl
verdict_of_number Met = refl
verdict_of_number Broken = refl
verdict_of_number MetAfter = refl
verdict_of_number BrokenAfter = refl

pub same_verdict : (v w : Verdict) → verdict_number v ≡ verdict_number w → v ≡ w
same_verdict v w e = sym (verdict_of_number v) ∙ ap verdict_of e ∙ verdict_of_number w

pub few_verdicts : (v : Verdict) → verdict_number v ≤ 4
few_verdicts Open = omega arith
few_verdicts Met = omega arith
few_verdicts Broken = omega arith
few_verdicts MetAfter = omega arith
few_verdicts BrokenAfter = omega arith
