-- `machine::keep_first` meets its contract: the first k bytes keep their first bits.
use Prim.Native.Nat.{◌%◌}
use native.Mathlib.Numerals.{add-one}
use native.Mathlib.Omega.{arith}
use mathlib.Core.Path.{◌≡◌, ◌∙◌}
use lib.ListN.{length}
use Rattle.machine.specs.Computing.{first_bits}
use Rattle.machine.proofs.Trimming.{map_first_next, map_first_all}
use Rattle.machine.proofs.keep_first.Goals as goal

pub loop-value-preserved : goal.loop-value-preserved
loop-value-preserved c =
    let l = c.loop-value in
    rw (l.invariant, add-one l.value-index) (map_first_next (λ v. v % 2) l.value-index c.args.values.now)

pub returns : goal.returns
unfolding first_bits
returns c =
    let l = c.loop-value in
    let a = c.args.values.now in
    let e : l.value-index ≡ length a = omega arith in
    l.invariant ∙ rw e (map_first_all (λ v. v % 2) a)
