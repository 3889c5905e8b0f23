-- `compiler::put_image` meets its contract: the fixed rows, the contract's rows and the end record, one behind the other.
use Prim.Native.Nat.{ℕ, ◌*◌}
use native.Mathlib.Omega.{arith}
use mathlib.Core.List.{List}
use mathlib.Core.Path.{◌≡◌}
use lib.Seq.{sets}
use Rattle.layout.specs.Limits.{row_bytes}
use Rattle.layout.specs.Rows.{never, initial, negation, kind, row_record}
use Rattle.image.specs.Widths.{never_row, first_row, later_row}
use Rattle.compiler.proofs.Whole.{with_fixed_rows, fixed_rows-written, emits, end_room, image_is, count_is}
use Rattle.compiler.proofs.put_image.Goals as goal

-- the fixed rows are written
fixed : (image : List ℕ) {one two three : List ℕ} → one ≡ sets image (row_bytes * never_row) (row_record (kind never) 0 0)
    → two ≡ sets one (row_bytes * first_row) (row_record (kind initial) 0 0)
    → three ≡ sets two (row_bytes * later_row) (row_record (kind (negation first_row)) first_row 0) → three ≡ with_fixed_rows image
fixed image e f g = rw (g, f, e) (fixed_rows-written image)

pub emit-whole-requires : goal.emit-whole-requires
emit-whole-requires c = rw (fixed c.args.image.now c.put_row.ensures c.put_row-2.ensures c.put_row-3.ensures) (emits _ _ _ c.requires)

pub put_end-requires : goal.put_end-requires
put_end-requires c =
    let emitted = rw (fixed c.args.image.now c.put_row.ensures c.put_row-2.ensures c.put_row-3.ensures) at c.emit-whole.ensures in
    omega (arith, end_room _ _ _ c.requires _ _ emitted)

pub returns : goal.returns
returns c =
    let emitted = rw (fixed c.args.image.now c.put_row.ensures c.put_row-2.ensures c.put_row-3.ensures) at c.emit-whole.ensures in
    record { written = rw c.put_end.ensures (image_is _ _ _ c.requires _ _ emitted); count = count_is _ _ _ c.requires _ _ emitted }
