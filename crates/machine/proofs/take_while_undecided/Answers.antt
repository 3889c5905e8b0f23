-- `machine::take_while_undecided` meets its contract: after k turns the state stands for what the first k periods leave, and each of
-- the first k records was to be taken.
use native.Mathlib.Omega.{arith}
use native.Mathlib.Nat.{sub-zero}
use mathlib.Core.Path.{sym, ◌∙◌}
use Rattle.records.specs.Holding.{AllBytes}
use Rattle.records.proofs.Searches.{failing_next}
use Rattle.machine.proofs.Taking.{took_none, took_head, took_working, took_next, takes_next_lem, took_here, took_all}
use Rattle.machine.proofs.take_while_undecided.Goals as goal

pub loop-k-init : goal.loop-k-init
loop-k-init c =
    let a = c.args in
    let bytes : AllBytes a.state.now = record { below = λ i. (c.type_inv.state i).fits } in
    (took_none a.image.now a.state.now _ a.trace.now a.n c.requires.0 bytes, rw sub-zero)

pub takes_next-requires : goal.takes_next-requires
takes_next-requires c =
    let a = c.args in
    let l = c.loop-k in
    (took_head a.image.now a.state.now _ a.trace.now a.n c.requires.0 l.k _ l.invariant.0, rw c.form_of-form.ensures (omega (arith, c.requires.1)))

pub trim-requires : goal.trim-requires
trim-requires c =
    let a = c.args in
    let l = c.loop-k in
    took_head a.image.now a.state.now _ a.trace.now a.n c.requires.0 l.k _ l.invariant.0

pub returns-then-not-takes_next : goal.returns-then-not-takes_next
returns-then-not-takes_next c =
    let a = c.args in
    let l = c.loop-k in
    rw (c.trim.ensures, ← c.form_of-form.ensures)
    (took_here a.image.now a.state.now _ a.trace.now a.n c.requires.0 l.k l.state l.invariant.0 l.invariant.1 c.loop-k-test.true
    (sym (takes_next_lem a.image.now a.state.now _ a.trace.now a.n c.requires.0 l.k _ l.invariant.0) ∙ sym c.takes_next.ensures ∙ c.if-not-takes_next.true))

pub advance-requires : goal.advance-requires
advance-requires c =
    let a = c.args in
    let l = c.loop-k in
    took_working a.image.now a.state.now _ a.trace.now a.n c.requires.0 l.k _ l.invariant.0 (omega arith)

pub loop-k-preserved : goal.loop-k-preserved
loop-k-preserved c =
    let a = c.args in
    let l = c.loop-k in
    let t = c.advance in
    let g = sym (takes_next_lem a.image.now a.state.now _ a.trace.now a.n c.requires.0 l.k _ l.invariant.0) ∙ sym c.takes_next.ensures ∙ c.if-not-takes_next.false in (
      took_next a.image.now a.state.now _ a.trace.now a.n c.requires.0 l.k _ l.invariant.0 (omega arith) _ t.auto.state (rw (← c.read_period-attempts.ensures.is) t.ensures),
      sym (failing_next _ l.k a.n c.loop-k-test.true g) ∙ l.invariant.1,
    )

pub trim-requires-2 : goal.trim-requires-2
trim-requires-2 c =
    let a = c.args in
    let l = c.loop-k in
    took_head a.image.now a.state.now _ a.trace.now a.n c.requires.0 l.k _ l.invariant.0

pub returns : goal.returns
returns c =
    let a = c.args in
    let l = c.loop-k in
    rw (c.trim-2.ensures, ← c.form_of-form.ensures)
    (took_all a.image.now a.state.now _ a.trace.now a.n c.requires.0 l.k l.state l.invariant.0 l.invariant.1 c.loop-k-test.false l.auto.k-end)
