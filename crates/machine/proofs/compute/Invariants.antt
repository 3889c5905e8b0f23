-- `machine::compute` meets its contract: after k turns the first k rows have their new values.
use mathlib.Core.Path.{◌≡◌}
use Rattle.periods.specs.Computing.{period_of}
use Rattle.layout.specs.Images.{image_of}
use Rattle.machine.proofs.Computing.{so_far}
use Rattle.machine.proofs.compute.Given as goal

abbrev pub invariant-loop-k : goal.invariant-loop-k
invariant-loop-k l = l.values ≡ so_far l.first (period_of l.a) l.initial.values (image_of l.image).rows l.k
