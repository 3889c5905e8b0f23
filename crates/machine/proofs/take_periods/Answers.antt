-- `machine::take_periods` meets its contract: after k turns the state stands for what the first k periods leave.
use native.Mathlib.Omega.{arith}
use Rattle.records.specs.Holding.{AllBytes}
use Rattle.machine.proofs.Taking.{took_none, took_head, took_working, took_next}
use Rattle.machine.proofs.take_periods.Goals as goal

pub loop-k-init : goal.loop-k-init
loop-k-init c =
    let a = c.args in
    let bytes : AllBytes a.state.now = record { below = λ i. (c.type_inv.state i).fits } in
    took_none a.image.now a.state.now _ a.trace.now a.n c.requires.0 bytes

pub advance-requires : goal.advance-requires
advance-requires c =
    let a = c.args in
    let l = c.loop-k in
    took_working a.image.now a.state.now _ a.trace.now a.n c.requires.0 l.k _ l.invariant (omega arith)

pub loop-k-preserved : goal.loop-k-preserved
loop-k-preserved c =
    let a = c.args in
    let l = c.loop-k in
    let t = c.advance in
    took_next a.image.now a.state.now _ a.trace.now a.n c.requires.0 l.k _ l.invariant (omega arith) _ t.auto.state (rw (← c.read_period.ensures.is) t.ensures)

pub trim-requires : goal.trim-requires
trim-requires c =
    let a = c.args in
    let l = c.loop-k in
    took_head a.image.now a.state.now _ a.trace.now a.n c.requires.0 l.k _ l.invariant
