-- `machine::keep_first` meets its contract: the first k bytes keep their first bits.
use Prim.Native.Nat.{◌%◌}
use mathlib.Core.Path.{◌≡◌}
use Rattle.machine.proofs.Trimming.{map_first}
use Rattle.machine.proofs.keep_first.Given as goal

abbrev pub invariant-loop-value : goal.invariant-loop-value
invariant-loop-value l = l.values ≡ map_first (λ v. v % 2) l.value-index l.initial.values
