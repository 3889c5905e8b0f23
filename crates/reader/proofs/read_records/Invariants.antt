-- The invariant of the loop of `reader::read_records`: the stack has the codes of the operands that the records so far leave.
use Rattle.reader.proofs.Pending.{StackAfter}
use Rattle.reader.proofs.read_records.Given as goal

abbrev pub invariant-loop-k : goal.invariant-loop-k
invariant-loop-k l = StackAfter l.contract l.n l.stack l.k
