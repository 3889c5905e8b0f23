-- `states::all_at_most` meets its contract: the values left are a block and those after it.
use Rattle.std.proofs.Common.{rules, ◌≡◌, sym, ◌∙◌, ◌++◌, true, false, length}
use Rattle.std.specs.Slice.Iter.{chunks_rest}
use Rattle.states.specs.States.{all_at_most}
use Rattle.states.proofs.Values.{all_at_most-append, none_left}
use Rattle.states.proofs.all_at_most.Goals as goal

pub returns-then-not-block_at_most : goal.returns-then-not-block_at_most
returns-then-not-block_at_most c =
    let parts : chunks_rest c.loop-block.block-iterator ≡ c.in-Some.block.now ++ chunks_rest c.next.new.self = search rules in
    let bad : all_at_most c.args.top c.in-Some.block.now ≡ false = search rules in
    rw (parts, all_at_most-append, bad) at c.loop-block.invariant.2

pub loop-block-preserved : goal.loop-block-preserved
loop-block-preserved c =
    let parts : chunks_rest c.loop-block.block-iterator ≡ c.in-Some.block.now ++ chunks_rest c.next.new.self = search rules in
    let good : all_at_most c.args.top c.in-Some.block.now ≡ true = search rules in
    (search rules, tt, rw (parts, all_at_most-append, good) at c.loop-block.invariant.2)

pub returns : goal.returns
returns c =
    let ended : length (chunks_rest c.loop-block.block-iterator) ≡ 0 = search rules in
    sym (sym c.loop-block.invariant.2 ∙ none_left c.args.top (chunks_rest c.loop-block.block-iterator) ended)
