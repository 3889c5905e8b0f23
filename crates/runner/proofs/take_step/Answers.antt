-- `runner::take_step` meets its contract: what passes its tests is ready for one record.
use Rattle.std.proofs.Common.{arith, sym, ◌∙◌}
use Rattle.calls.proofs.Refusals.{step_ready, step_record}
use Rattle.runner.proofs.take_step.Goals as goal

pub take-requires : goal.take-requires
take-requires c =
    let a = c.args in
    let passed = sym c.step_test.ensures ∙ c.in_ok-step_test.was in
    (step_ready a.image.now a.state.now a.period.now passed, omega (arith, step_record a.image.now a.state.now a.period.now passed))
