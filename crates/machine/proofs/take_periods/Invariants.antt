-- `machine::take_periods` meets its contract: after k turns the state stands for what the first k periods leave.
use Rattle.machine.proofs.Taking.{Took}
use Rattle.machine.proofs.take_periods.Given as goal

abbrev pub invariant-loop-k : goal.invariant-loop-k
invariant-loop-k l = Took l.image l.initial.state l.form l.trace l.k l.state
