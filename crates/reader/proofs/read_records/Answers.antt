-- `reader::read_records` meets its contract: what each record does to the stack.
use native.Mathlib.Omega.{arith}
use mathlib.Core.Path.{sym, ◌∙◌}
use Rattle.std.proofs.lemmas.Result.{err_from_is_err_and}
use Rattle.reader.proofs.Pending.{read_refused, read_pushed, ended}
use Rattle.reader.proofs.read_records.Goals as goal

pub returns-in_err-step : goal.returns-in_err-step
returns-in_err-step c =
    let step = rw c.top_two.ensures at c.read_record.ensures in
    let p = err_from_is_err_and c.from_residual.result c.from_residual.ensures.1 in
    rw (p.1, p.2, read_refused c.loop-k.invariant c.loop-k-test.true _ (sym step ∙ c.in_err-step.was))

pub pop-requires : goal.pop-requires
pop-requires c =
    let step = rw c.top_two.ensures at c.read_record.ensures in
    (read_pushed c.loop-k.invariant c.loop-k-test.true _ (sym step ∙ c.in_ok-step.was)).0

pub loop-k-preserved : goal.loop-k-preserved
loop-k-preserved c =
    let step = rw c.top_two.ensures at c.read_record.ensures in
    rw (c.push.ensures, c.pop.ensures) (read_pushed c.loop-k.invariant c.loop-k-test.true _ (sym step ∙ c.in_ok-step.was)).1

pub returns : goal.returns
returns c = rw (ended c.loop-k.invariant (omega arith), ← c.is_just.ensures) c.require.ensures
