-- `runner::take_run` meets its contract: what passes its tests is ready for the trace's records.
use Rattle.std.proofs.Common.{arith, sym, ◌∙◌}
use Rattle.calls.proofs.Refusals.{run_ready}
use Rattle.runner.proofs.take_run.Goals as goal

pub take-requires : goal.take-requires
take-requires c =
    let a = c.args in
    let passed = sym c.run_test.ensures ∙ c.in_ok-run_test.was in
    (rw c.period_records.ensures (run_ready a.image.now a.state.now a.trace.now passed), omega (arith, c.period_records.ensures))
