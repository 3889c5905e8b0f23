-- `records::marked` meets its contract: the two bytes are compared with the mark's.
use Rattle.std.proofs.Common.{arith, ◌∙◌}
use Rattle.records.proofs.Marks.{marked_part}
use Rattle.records.proofs.marked.Goals as goal

pub returns : goal.returns
returns c = c.eq.ensures ∙ marked_part c.args.s.now c.args.at c.args.mark (omega arith) c.requires
