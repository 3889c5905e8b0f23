-- The verdicts, their numbers and names. Document 01, "Meaning of clauses", from "Verdicts after n periods".
use Rattle.std.specs.Prelude.{◌≡◌, ℕ, cond, ltb, Result, MatchResult}
use Prim.Native.String.{String}
use Rattle.records.specs.declared.NoVerdict.{NoVerdict}
use Rattle.records.specs.declared.Verdict.{Verdict}
use Rattle.records.specs.declared.Verdict.TheVariants.{Open, Met, Broken, MetAfter, BrokenAfter}

-- the verdict after n periods of a decision at period k: one when n is k, another later, and open before
abbrev pub since : (k n : ℕ) → (now later : Verdict) → Verdict
since k n now later = cond (ltb n k) Open (cond (ltb k n) later now)

-- a verdict's number
abbrev pub verdict_number : Verdict → ℕ
verdict_number Open = 0
verdict_number Met = 1
verdict_number Broken = 2
verdict_number MetAfter = 3
verdict_number BrokenAfter = 4

-- what a number is read as: the verdict whose number it is, or that it is none's
abbrev pub Numbers : ℕ → Result Verdict NoVerdict → Type 0
Numbers n r = MatchResult r (λ v. verdict_number v ≡ n) (λ _. (v : Verdict) → verdict_number v ≡ n → ⊥)

-- a verdict's name
abbrev pub verdict_name : Verdict → String
verdict_name Open = "open"
verdict_name Met = "met"
verdict_name Broken = "broken"
verdict_name MetAfter = "met-after"
verdict_name BrokenAfter = "broken-after"
