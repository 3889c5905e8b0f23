-- `periods::marks_test` meets its contract: the search of the first record with another mark.
use mathlib.Core.Path.{◌∙◌}
use Rattle.std.proofs.Common.{rules}
use Rattle.periods.specs.Traces.{marked_at, marks_test}
use Rattle.periods.proofs.marks_test.Goals as goal

pub returns : goal.returns
unfolding marks_test
returns c =
    let a = c.args in
    let e = c.first_failing-bad.ensures (marked_at a.form a.s.now) (λ k b h p. search rules) in
    c.require.ensures ∙ rw (← c.whole_periods-n.ensures, ← e)
