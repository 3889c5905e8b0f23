-- `machine::row_value` meets its contract: row k stands in the image.
use native.Mathlib.Omega.{arith}
use Rattle.layout.proofs.Images.{row_fits}
use Rattle.machine.proofs.row_value.Goals as goal

pub overflow_mul-at : goal.overflow_mul-at
overflow_mul-at c = omega (arith, row_fits c.args.image.now c.requires.good c.args.k c.requires.row)

pub overflow_add-at : goal.overflow_add-at
overflow_add-at c = omega (arith, row_fits c.args.image.now c.requires.good c.args.k c.requires.row)

pub bounds-image-at : goal.bounds-image-at
bounds-image-at c = omega (arith, row_fits c.args.image.now c.requires.good c.args.k c.requires.row)

pub of_kind-row-requires : goal.of_kind-row-requires
of_kind-row-requires c = row_fits c.args.image.now c.requires.good c.args.k c.requires.row
