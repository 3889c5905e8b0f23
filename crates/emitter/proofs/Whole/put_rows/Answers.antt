-- `emitter::Whole::put_rows` meets its contract: after i turns the first i of the rows are written.
use native.Mathlib.Numerals.{add-one}
use Rattle.std.proofs.lemmas.List.{take_all}
use Rattle.emitter.specs.Blocks.{meant}
use Rattle.emitter.proofs.Writing.{none_named, written_next}
use Rattle.emitter.proofs.Whole.put_rows.Goals as goal

pub loop-i-init : goal.loop-i-init
loop-i-init c = none_named (meant c.args.self.now) c.args.rows.now c.args.image.now c.args.at

pub loop-i-preserved : goal.loop-i-preserved
loop-i-preserved c =
    let a = c.args in
    rw (add-one c.loop-i.i)
    (written_next (meant a.self.now) a.rows.now a.image.now a.at c.loop-i.image c.put_row.new.image c.loop-i.i c.meant.result c.meant-in-loop-i.result _
    c.loop-i-test.true c.loop-i.invariant c.meant.ensures c.meant-in-loop-i.ensures c.put_row.ensures)

pub returns : goal.returns
returns c = rw (← take_all c.loop-i.i c.args.rows.now c.loop-i-test.false) c.loop-i.invariant
