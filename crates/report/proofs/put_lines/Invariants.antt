-- `report::put_lines` meets its contract. The loop's invariant: after k periods the state follows whichever clause the first one follows, and
-- the text has their lines more.
use mathlib.Core.List.{[]}
use Rattle.contract.specs.Meaning.{Clause}
use Rattle.report.specs.Putting.{Follows}
use Rattle.report.proofs.Following.{Held}
use Rattle.report.proofs.put_lines.Given as goal

abbrev pub invariant-loop-k : goal.invariant-loop-k
invariant-loop-k l = (c : Clause) → Follows c l.image l.initial.state [] → Held c l.image l.trace l.initial.text l.k l.state l.text l.decision
