-- The verdict that a state shows. Document 01, "Meaning of clauses", from "Verdicts after n periods".
use Rattle.std.specs.Prelude.{cond, eqb}
use Rattle.records.specs.declared.Verdict.{Verdict}
use Rattle.records.specs.declared.Verdict.TheVariants.{Open, Met, Broken, MetAfter, BrokenAfter}
use Rattle.records.specs.Verdicts.{since}
use Rattle.states.specs.States.{State}

-- the verdict that a state shows: open while undecided; met or broken in the decision period; met-after or broken-after later
abbrev pub verdict : State → Verdict
verdict s =
    cond (eqb s.outcome 0) Open
    (cond (eqb s.outcome 1) (since s.decision s.periods Met MetAfter)
    (since s.decision s.periods Broken BrokenAfter))
