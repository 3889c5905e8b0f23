-- `decider::read_trace` meets its contract: where the loop stops it gives what decide does.
use Rattle.std.proofs.Common.{◌≡◌, ℕ, true, List, arith, sym, ◌∙◌}
use native.Mathlib.Nat.{le_refl}
use borrow.Author.Tests.{eqb-true, eqb-false}
use Rattle.periods.specs.Traces.{form_of, period_records}
use Rattle.layout.specs.Images.{row_count}
use Rattle.states.specs.States.{fresh_bytes}
use Rattle.machine.specs.Premises.{Takes}
use Rattle.calls.proofs.Refusals.{unread_passed, unread_ready}
use Rattle.decider.proofs.Loop.{stops_within, decides_refused, decides_read}
use Rattle.decider.proofs.read_trace.Goals as goal
use Rattle.decider.proofs.read_trace.Goals.{else-read-n-via-then-read-n+else-is_undecided, else-read-n-via-else-read-n}

-- what the call that reads gives, in the words of a fresh state and a whole trace
took_fresh : (image trace state : List ℕ) (n : ℕ) (later : List ℕ) (r : ℕ) → state ≡ fresh_bytes (row_count image) → n ≡ period_records trace
    → Takes true image state (form_of trace) trace n later r → Takes true image (fresh_bytes (row_count image)) (form_of trace) trace (period_records trace) later r
took_fresh image trace state n later r s e t = rw (← s, ← e) t

pub take_while_undecided-read-requires : goal.take_while_undecided-read-requires
take_while_undecided-read-requires c =
    let a = c.args in
    rw (c.period_records-n.ensures, c.requires.state_value) (unread_ready a.image.now a.trace.now c.requires.trace_value, le_refl _)

pub returns-then-is_undecided : goal.returns-then-is_undecided
returns-then-is_undecided c =
    let t = took_fresh _ _ _ _ _ _ c.requires.state_value c.period_records-n.ensures c.take_while_undecided-read.ensures in
    decides_refused c.args.image.now c.args.trace.now c.requires.trace_value _ _ t (omega (arith, c.period_records-n.ensures))
    (rw c.read-head.ensures at (eqb-true _ _ (sym c.is_undecided.ensures ∙ c.if-is_undecided.true)))

pub overflow_cast-result : goal.overflow_cast-result
overflow_cast-result c =
    let t = took_fresh _ _ _ _ _ _ c.requires.state_value c.period_records-n.ensures c.take_while_undecided-read.ensures in
    omega (arith, stops_within c.args.image.now c.args.trace.now c.requires.trace_value _ _ t, (unread_passed _ _ c.requires.trace_value).2)

pub returns : goal.returns
returns c =
    let t = took_fresh _ _ _ _ _ _ c.requires.state_value c.period_records-n.ensures c.take_while_undecided-read.ensures in
    rw (c.from.ensures, c.from-2.ensures, c.read-head.ensures)
    (decides_read c.args.image.now c.args.trace.now c.requires.trace_value _ _ t
    (λ h.
    elim c.else-read-n.branch [
      | else-read-n-via-then-read-n+else-is_undecided w ↦ absurd (eqb-false _ _ (sym w.is_undecided.ensures ∙ w.if-is_undecided.false) (rw c.read-head.ensures h.1))
      | else-read-n-via-else-read-n w ↦ absurd (omega (arith, c.period_records-n.ensures, w.if-read-n.false, h.0))
    ]))
