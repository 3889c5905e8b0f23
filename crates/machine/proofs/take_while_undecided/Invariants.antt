-- `machine::take_while_undecided` meets its contract: after k turns the state stands for what the first k periods leave, and each of
-- the first k records was to be taken.
use Prim.Native.Nat.{◌-◌}
use mathlib.Core.Bool.{true}
use mathlib.Core.Path.{◌≡◌}
use Rattle.records.specs.Refusals.{first_failing}
use Rattle.machine.specs.Premises.{goes_on}
use Rattle.machine.proofs.Taking.{Took}
use Rattle.machine.proofs.take_while_undecided.Given as goal

abbrev pub invariant-loop-k : goal.invariant-loop-k
invariant-loop-k l =
    let goes = goes_on true l.image l.initial.state l.form l.trace in
    Took l.image l.initial.state l.form l.trace l.k l.state × (first_failing goes l.k (l.n - l.k) ≡ first_failing goes 0 l.n)
