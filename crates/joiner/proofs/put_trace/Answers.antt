-- `joiner::put_trace` meets its contract: each period's record is written as the merge of the logs finds it.
use mathlib.Core.Path.{refl, ◌∙◌}
use Rattle.joiner.proofs.Writing.{merged_first, merged_next}
use Rattle.joiner.proofs.put_trace.Goals as goal

pub loop-k-init : goal.loop-k-init
loop-k-init c = record { log1 = refl; log2 = refl; merged = merged_first _ _ _ c.requires }

pub loop-k-preserved : goal.loop-k-preserved
loop-k-preserved c =
    let l = c.loop-k in
    let one = c.attempts_in.ensures in
    let two = c.attempts_in-in-loop-k.ensures in
    record {
      log1 = one.log ∙ l.invariant.log1;
      log2 = two.log ∙ l.invariant.log2;
      merged =
          rw (c.put_period.ensures, c.from.ensures, one.attempts, one.next, two.attempts, two.next, l.invariant.log1, l.invariant.log2)
          (merged_next _ _ _ c.requires _ _ _ _ l.invariant.merged);
    }
