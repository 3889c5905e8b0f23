-- `machine::compute` meets its contract: after k turns the first k rows have their new values.
use native.Mathlib.Numerals.{add-one}
use native.Mathlib.Omega.{arith}
use mathlib.Core.Path.{◌≡◌, ◌∙◌}
use Prim.Native.Nat.{◌<◌}
use lib.ListN.{length}
use Rattle.periods.specs.Computing.{period_of}
use Rattle.layout.specs.Images.{row_count, image_of}
use Rattle.layout.proofs.Images.{passed_good, good_row_lem}
use Rattle.machine.specs.Computing.{values_in, new_bits}
use Rattle.machine.proofs.Computing.{fresh_of, so_far_none, so_far_old, so_far_next, so_far_all}
use Rattle.machine.proofs.compute.Goals as goal

pub loop-k-init : goal.loop-k-init
loop-k-init c =
    let a = c.args in
    so_far_none a.first (period_of a.a) a.values.now (image_of a.image.now).rows

pub row_value-requires : goal.row_value-requires
row_value-requires c =
    let a = c.args in
    let h = c.requires in
    let l = c.loop-k in
    let v = a.values.now in
    record {
      good = h.good;
      row = omega (arith, h.long);
      long = omega (arith, h.long);
      fresh = rw (l.invariant, so_far_old a.first (period_of a.a) v (image_of a.image.now).rows l.k) (fresh_of a.first v h.fresh);
    }

pub loop-k-preserved : goal.loop-k-preserved
loop-k-preserved c =
    let a = c.args in
    let h = c.requires in
    let l = c.loop-k in
    let v = a.values.now in
    let m = a.image.now in
    let i : l.k < length v = omega arith in
    let j : l.k < row_count m = omega (arith, h.long) in
    rw (c.row_value.ensures, l.invariant, add-one l.k)
    (so_far_next a.first (period_of a.a) v (image_of m).rows l.k (row_count m) i (good_row_lem m (passed_good m h.good) l.k j).names)

pub returns : goal.returns
unfolding new_bits values_in
returns c =
    let a = c.args in
    let l = c.loop-k in
    let v = a.values.now in
    let e : l.k ≡ length v = omega arith in
    l.invariant ∙ rw (e, ← c.requires.long) (so_far_all a.first (period_of a.a) v (image_of a.image.now).rows)
