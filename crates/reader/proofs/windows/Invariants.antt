-- The invariant of the loop of `reader::windows`: the sum is that of the first k records.
use Prim.Native.Nat.{◌*◌, ◌≤◌}
use mathlib.Core.Path.{◌≡◌}
use Rattle.grammar.specs.Reader.{windows_of}
use Rattle.reader.proofs.windows.Given as goal

abbrev pub invariant-loop-k : goal.invariant-loop-k
invariant-loop-k l = (l.sum ≡ windows_of l.contract l.k) × (l.sum ≤ 255 * l.k)
