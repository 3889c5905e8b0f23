-- `joiner::put_trace` meets its contract: after k periods their records are written, and each log stands at its next record.
use mathlib.Core.Path.{◌≡◌}
use Rattle.joiner.proofs.Writing.{Merged}
use Rattle.joiner.proofs.put_trace.Given as goal

abbrev pub invariant-loop-k : goal.invariant-loop-k
invariant-loop-k l =
    record {
      log1 : l.one.log.now ≡ l.log1;
      log2 : l.two.log.now ≡ l.log2;
      merged : Merged l.log1 l.log2 l.initial.trace l.k l.one.at l.two.at l.trace;
    }
