-- `emitter::Whole::put_rows` meets its contract: after i turns the first i of the rows are written.
use mathlib.Core.Path.{◌≡◌}
use lib.ListN.{take}
use Rattle.emitter.specs.Rows.{written_rows, named_rows}
use Rattle.emitter.specs.Blocks.{meant}
use Rattle.emitter.proofs.Whole.put_rows.Given as goal

abbrev pub invariant-loop-i : goal.invariant-loop-i
invariant-loop-i l = l.image ≡ written_rows l.initial.image l.at (named_rows (meant l.self) (take l.i l.rows))
