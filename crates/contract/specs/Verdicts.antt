-- The verdicts after some periods, and what else is reported of a decision. Document 01, "Meaning of clauses", from "Verdicts after n periods", and
-- "Image and row machine", from "State".
use Rattle.std.specs.Prelude.{ℕ, ◌≤◌, ◌<◌, List, [], ◌⊎◌, ◌≡◌, length, take}
use Rattle.records.specs.declared.Verdict.{Verdict}
use Rattle.records.specs.declared.Verdict.TheVariants.{Open, Met, Broken, MetAfter, BrokenAfter}
use Rattle.records.specs.Verdicts.{since}
use Rattle.periods.specs.Periods.{Period}
use Rattle.contract.specs.Meaning.{parties_number, Clause, Decision, undecided, satisfied, violated, meaning}

-- "outcome (0 undecided, 1 satisfied, 2 violated)"
abbrev pub outcome : Decision → ℕ
outcome undecided = 0
outcome (satisfied k) = 1
outcome (violated k b) = 2

-- the decision period, 0 while undecided
abbrev pub decision_period : Decision → ℕ
decision_period undecided = 0
decision_period (satisfied k) = k
decision_period (violated k b) = k

-- blame is 0 unless the clause is violated
abbrev pub blame : Decision → ℕ
blame undecided = 0
blame (satisfied k) = 0
blame (violated k b) = parties_number b

-- after n periods: open while undecided; met or broken when n is the decision period; met-after or broken-after later
abbrev pub verdict : Decision → ℕ → Verdict
verdict undecided n = Open
verdict (satisfied k) n = since k n Met MetAfter
verdict (violated k b) n = since k n Broken BrokenAfter

-- A clause decides a list at one period or at none: there is a decision such that each beginning of the list is open if it is
-- shorter than the deciding period, and otherwise has exactly that decision. So a decision stands on every longer list.
pub record DecidesOnce (c : Clause) (w : List Period) : Type 0 where
  pub decision : Decision
  pub nothing_yet : meaning c [] ≡ undecided
  pub bounds : (decision ≡ undecided) ⊎ ((1 ≤ decision_period decision) × (decision_period decision ≤ length w))
  pub open_before : (n : ℕ) → n < decision_period decision → meaning c (take n w) ≡ undecided
  pub same_from : (n : ℕ) → decision_period decision ≤ n → meaning c (take n w) ≡ decision
  pub verdicts : (n : ℕ) → n ≤ length w → verdict (meaning c (take n w)) n ≡ verdict decision n
