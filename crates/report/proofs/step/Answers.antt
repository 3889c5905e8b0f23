-- `report::step` meets its contract: the part of the trace is its record k, and the fields are read from the reply.
use Prim.Native.Nat.{ℕ, ◌+◌, ◌*◌, ◌≤◌, ◌<◌}
use native.Mathlib.Omega.{arith}
use mathlib.Core.List.{List}
use mathlib.Core.Path.{◌≡◌, ap, ◌∙◌}
use lib.ListN.{length}
use Rattle.periods.specs.declared.Form.{Form}
use Rattle.periods.specs.Forms.{period_bytes}
use Rattle.periods.specs.Traces.{form_of, period_records}
use Rattle.periods.proofs.Forms.{period_inside}
use Rattle.report.proofs.Following.{stepped_on, has_verdict, stepping}
use Rattle.report.proofs.step.Goals as goal

-- the record is inside the trace
inside : (trace : List ℕ) (k : ℕ) {form : Form} {bytes : ℕ} → form ≡ form_of trace → bytes ≡ period_bytes form → k < period_records trace
    → (bytes ≡ period_bytes (form_of trace)) × (bytes * k + bytes ≤ length trace)
inside trace k f b h =
    let e = b ∙ ap period_bytes f in
    (e, rw e (period_inside (form_of trace) trace k h))

pub overflow_mul-from : goal.overflow_mul-from
overflow_mul-from c = omega (arith, inside c.args.trace.now c.args.k c.form_of.ensures c.period_bytes-bytes.ensures c.requires.inside)

pub overflow_add-from : goal.overflow_add-from
overflow_add-from c = omega (arith, inside c.args.trace.now c.args.k c.form_of.ensures c.period_bytes-bytes.ensures c.requires.inside)

pub slice_bounds-monitor_step-end : goal.slice_bounds-monitor_step-end
slice_bounds-monitor_step-end c = (inside c.args.trace.now c.args.k c.form_of.ensures c.period_bytes-bytes.ensures c.requires.inside).1

pub unreachable-requires : goal.unreachable-requires
unreachable-requires c =
    let r = c.requires in
    let i = inside c.args.trace.now c.args.k c.form_of.ensures c.period_bytes-bytes.ensures r.inside in
    let g = stepped_on _ _ _ _ _ i.0 _ _ _ c.monitor_step.ensures _ c.get_head-head.ensures _ _ c.get-blame.ensures c.get-decision.ensures in
    let v = has_verdict r.clause _ _ _ _ _ _ _ _ r.follows r.inside r.marked r.few g in
    c.in_default.ensures v.0 v.1

pub returns : goal.returns
returns c d f =
    let r = c.requires in
    let i = inside c.args.trace.now c.args.k c.form_of.ensures c.period_bytes-bytes.ensures r.inside in
    let g = stepped_on _ _ _ _ _ i.0 _ _ _ c.monitor_step.ensures _ c.get_head-head.ensures _ _ c.get-blame.ensures c.get-decision.ensures in
    stepping d _ _ _ _ _ _ _ _ f r.inside r.marked r.few g _ c.in-Ok.ensures
