-- `records::first_failing` meets its contract: each step of the loop is a step of the search.
use Rattle.std.proofs.Common.{◌≡◌, arith, sym, ◌∙◌}
use Rattle.records.proofs.Searches.{failing_next, failing_here, failing_end}
use Rattle.records.proofs.first_failing.Goals as goal

pub returns-then-not-passes : goal.returns-then-not-passes
returns-then-not-passes g c ok h =
    let fails = sym (h c.loop-k.k c.passes.result c.loop-k-test.true c.passes.ensures) ∙ c.if-not-passes.true in
    sym (failing_here ok c.loop-k.k c.args.n c.loop-k-test.true fails) ∙ c.loop-k.invariant ok h

pub loop-k-preserved : goal.loop-k-preserved
loop-k-preserved g c ok h =
    let holds = sym (h c.loop-k.k c.passes.result c.loop-k-test.true c.passes.ensures) ∙ c.if-not-passes.false in
    sym (failing_next ok c.loop-k.k c.args.n c.loop-k-test.true holds) ∙ c.loop-k.invariant ok h

pub returns : goal.returns
returns g c ok h =
    let end : c.args.n ≡ c.loop-k.k = omega arith in
    end ∙ sym (failing_end ok c.loop-k.k c.args.n c.loop-k-test.false) ∙ c.loop-k.invariant ok h
