-- The measure of `emit`: how many records there are.
use Rattle.emitter.proofs.+emit.Given as goal

abbrev pub decreases-emit : goal.decreases-emit
decreases-emit l = l.n
