-- `emitter::put_window` meets its contract: after each turn the rows of one later period more are written.
use native.Mathlib.Omega.{arith}
use Rattle.emitter.proofs.Periods.{none_yet, period_room, one_more, all_done}
use Rattle.emitter.proofs.put_window.Goals as goal

pub loop-init : goal.loop-init
loop-init c = rw c.no_block.ensures (none_yet c.args.image.now c.args.before c.args.at c.args.window)

pub overflow_sub-at : goal.overflow_sub-at
overflow_sub-at c =
    let n = c.loop.invariant.count in
    c.requires.two_before (omega arith)

pub put_period-requires : goal.put_period-requires
put_period-requires c = period_room c.loop.invariant c.requires (omega arith)

pub overflow_add-block : goal.overflow_add-block
overflow_add-block c = omega (arith, (period_room c.loop.invariant c.requires (omega arith)).few)

pub overflow_add-block-in-loop : goal.overflow_add-block-in-loop
overflow_add-block-in-loop c = omega (arith, (period_room c.loop.invariant c.requires (omega arith)).few)

pub overflow_add-block-in-loop-2 : goal.overflow_add-block-in-loop-2
overflow_add-block-in-loop-2 c = omega (arith, (period_room c.loop.invariant c.requires (omega arith)).few)

pub loop-preserved : goal.loop-preserved
loop-preserved c = one_more c.loop.invariant (omega arith) c.put_period.ensures

pub returns : goal.returns
returns c =
    let i = c.loop.invariant in
    let e = all_done i (omega arith) in
    rw (← e) (record { written = i.rows_are; gives = i.block_is })
