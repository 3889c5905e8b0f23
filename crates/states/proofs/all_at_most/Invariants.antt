-- `states::all_at_most`: what is left to test decides, since every block before it is good.
use Rattle.std.proofs.Common.{◌≡◌}
use Rattle.std.specs.Slice.Iter.{chunks_rest}
use Rattle.states.specs.States.{all_at_most}
use Rattle.states.proofs.all_at_most.Given as goal

abbrev pub invariant-loop-block : goal.invariant-loop-block
invariant-loop-block l =
    (goal.iterator-loop-block).can_next l.block-iterator
    × (goal.iterator-loop-block).is_finite l.block-iterator
    × (all_at_most l.top (chunks_rest l.block-iterator) ≡ all_at_most l.top l.values)
