-- `machine::advance` meets its contract: the count is raised, and on an undecided state the rows are computed and decide, the older values being left in second bits.
use Prim.Native.Nat.{◌+◌}
use native.Mathlib.Omega.{arith}
use mathlib.Core.Path.{◌≡◌, refl, sym, ap, ◌∙◌}
use lib.ListN.{length}
use lib.Seq.{length-sets}
use Rattle.records.specs.Fields.{field}
use Rattle.records.specs.Holding.{AllBytes}
use Rattle.periods.specs.Computing.{period_of}
use Rattle.states.specs.States.{state_of}
use Rattle.machine.proofs.Steps.{row_values, period_counted, period_computed, working_long, working_room}
use borrow.Author.Rules.{rules}
use borrow.Author.Tests.{eqb-true, eqb-false}
use Rattle.machine.proofs.advance.Goals as goal

pub read-head-requires : goal.read-head-requires
read-head-requires c = omega (arith, working_long c.args.image.now c.args.state.now c.requires)

pub overflow_add-head : goal.overflow_add-head
overflow_add-head c = rw c.read-head.ensures (omega (arith, working_room c.args.image.now c.args.state.now c.requires))

pub put-requires : goal.put-requires
put-requires c = omega (arith, working_long c.args.image.now c.args.state.now c.requires)

pub slice_bounds-compute-count : goal.slice_bounds-compute-count
slice_bounds-compute-count c =
    let e : length c.put.new.s ≡ length c.args.state.now = ap length c.put.ensures ∙ simp length-sets in
    omega (arith, working_long c.args.image.now c.args.state.now c.requires)

pub slice_bounds-compute-start : goal.slice_bounds-compute-start
slice_bounds-compute-start c =
    let e : length c.put.new.s ≡ length c.args.state.now = ap length c.put.ensures ∙ simp length-sets in
    omega (arith, working_long c.args.image.now c.args.state.now c.requires)

pub compute-requires : goal.compute-requires
unfolding state_of
compute-requires c =
    let l = c.args.state.now in
    rw (c.put.ensures, c.read-head.ensures) (row_values c.args.image.now l c.requires (field l 2 4 + 1))

pub read-requires : goal.read-requires
read-requires c =
    let a = c.args in
    let e : length c.put.new.s ≡ length a.state.now = ap length c.put.ensures ∙ simp length-sets in
    record { good = c.requires.good; long = omega (arith, working_long a.image.now a.state.now c.requires, e) }

pub overflow_add-head-then-is_undecided : goal.overflow_add-head-then-is_undecided
overflow_add-head-then-is_undecided c = rw c.read-head.ensures (omega (arith, working_room c.args.image.now c.args.state.now c.requires))

pub put_decision-requires : goal.put_decision-requires
put_decision-requires c =
    let a = c.args in
    let e : length c.put.new.s ≡ length a.state.now = ap length c.put.ensures ∙ simp length-sets in
    omega (arith, working_long a.image.now a.state.now c.requires, e)

pub returns-then-is_undecided : goal.returns-then-is_undecided
unfolding state_of
returns-then-is_undecided c =
    let a = c.args in
    let h = c.requires in
    let l = a.state.now in
    let n = field l 2 4 + 1 in
    let got = c.read-head.ensures in
    let put = c.put.ensures in
    let bytes : AllBytes l = record { below = λ i. search rules } in
    rw (c.put_decision.ensures, c.read.ensures, put, got)
    (period_computed a.image.now l h n bytes refl (period_of a.a) (rw got at (eqb-true _ _ (sym c.is_undecided.ensures ∙ c.if-is_undecided.true)))
    c.compute.new.values (rw (put, got) at c.compute.ensures))

pub returns-else-is_undecided : goal.returns-else-is_undecided
unfolding state_of
returns-else-is_undecided c =
    let a = c.args in
    let h = c.requires in
    let l = a.state.now in
    let n = field l 2 4 + 1 in
    let got = c.read-head.ensures in
    let bytes : AllBytes l = record { below = λ i. search rules } in
    rw (c.put.ensures, got) (period_counted a.image.now l h n bytes refl (period_of a.a) (rw got at (eqb-false _ _ (sym c.is_undecided.ensures ∙ c.if-is_undecided.false))))
