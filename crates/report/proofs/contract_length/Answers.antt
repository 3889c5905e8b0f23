-- `report::contract_length` meets its contract: all is contract, or what precedes the first period record.
use native.Mathlib.Omega.{arith}
use Rattle.std.proofs.Common.{rules}
use Rattle.periods.specs.declared.Form.TheVariants.{Narrow}
use Rattle.periods.proofs.Forms.{few_whole, period_inside}
use Rattle.report.specs.Split.{unmarked_six}
use Rattle.report.proofs.Split.{found_within, none_found, one_found}
use Rattle.report.proofs.contract_length.Goals as goal
use Rattle.report.proofs.contract_length.Goals.{Then-k-n, Else-k-n}

pub first_failing-k-requires : goal.first_failing-k-requires
first_failing-k-requires c k h =
    let inside = period_inside Narrow c.args.input.now k (omega (arith, c.whole_periods-n.ensures)) in
    search rules

pub returns-then-k-n : goal.returns-then-k-n
unfolding unmarked_six
returns-then-k-n c =
    none_found _ _ _ c.whole_periods-n.ensures (c.first_failing-k.ensures (unmarked_six c.args.input.now) (λ k b h p. search rules)) c.if-k-n.true

pub overflow_mul-result : goal.overflow_mul-result
unfolding unmarked_six
overflow_mul-result c =
    let n = c.whole_periods-n.ensures in
    let e = c.first_failing-k.ensures (unmarked_six c.args.input.now) (λ k b h p. search rules) in
    omega (arith, found_within _ _ _ n e, n, few_whole Narrow c.args.input.now)

pub returns-else-k-n : goal.returns-else-k-n
unfolding unmarked_six
returns-else-k-n c =
    one_found _ _ _ c.whole_periods-n.ensures (c.first_failing-k.ensures (unmarked_six c.args.input.now) (λ k b h p. search rules)) c.if-k-n.false
