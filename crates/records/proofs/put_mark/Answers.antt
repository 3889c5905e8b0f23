-- `records::put_mark` meets its contract: the mark's two bytes are copied.
use Rattle.std.proofs.Common.{arith}
use Rattle.records.proofs.Marks.{mark_copied}
use Rattle.records.proofs.put_mark.Goals as goal

pub returns : goal.returns
returns c = rw c.copy_from_slice.ensures.after (mark_copied c.args.s.now c.args.at c.args.mark (omega arith) c.requires)
