-- `emitter::Node::wire` meets its contract: the row that is so many on from the record's first is the sum.
use mathlib.Core.Path.{sym}
use Rattle.image.proofs.Sizes.{⊹-plus}
use Rattle.emitter.proofs.Node.wire.Goals as goal

pub returns-in-B : goal.returns-in-B
returns-in-B c = rw c.in-B.is (sym (⊹-plus _ _))
