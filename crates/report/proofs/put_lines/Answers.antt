-- `report::put_lines` meets its contract.
use native.Mathlib.Omega.{arith}
use Rattle.report.proofs.Following.{first_held, may_step, line_room, next_held, last_room, all_listed}
use Rattle.report.proofs.put_lines.Goals as goal

pub loop-k-init : goal.loop-k-init
loop-k-init c = first_held c.requires

pub step-seen-requires : goal.step-seen-requires
step-seen-requires c =
    let l = c.loop-k in
    may_step c.requires l.k l.state l.text l.decision l.invariant c.loop-k-test.true

pub put_period-requires : goal.put_period-requires
put_period-requires c =
    let l = c.loop-k in
    line_room c.requires l.k l.state l.text l.decision l.invariant c.loop-k-test.true _ _ c.step-seen.ensures

pub loop-k-preserved : goal.loop-k-preserved
loop-k-preserved c =
    let l = c.loop-k in
    next_held c.requires l.k l.state l.text l.decision l.invariant c.loop-k-test.true _ _ c.step-seen.ensures _ c.put_period.ensures

pub put_decided-requires : goal.put_decided-requires
put_decided-requires c =
    let l = c.loop-k in
    last_room c.requires l.k l.state l.text l.decision l.invariant (omega (arith, c.loop-k-test.false))

pub returns : goal.returns
returns c =
    let l = c.loop-k in
    all_listed c.requires l.k l.state l.text l.decision l.invariant (omega (arith, c.loop-k-test.false)) _ c.put_decided.ensures
