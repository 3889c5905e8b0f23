-- `emitter::put_window` meets its contract: after each turn the rows of one later period more are written.
use Rattle.emitter.proofs.Periods.{WindowSoFar}
use Rattle.emitter.proofs.put_window.Given as goal

abbrev pub invariant-loop : goal.invariant-loop
invariant-loop l = WindowSoFar l.initial.image l.before l.at l.window l.image l.block l.counter
