-- `emitter::Whole::meant` meets its contract: the row that is so many on from the first after the operands' rows is the sum.
use mathlib.Core.Path.{sym}
use Rattle.image.proofs.Sizes.{⊹-plus}
use Rattle.emitter.proofs.Whole.meant.Goals as goal

pub returns-in-N : goal.returns-in-N
returns-in-N c = rw c.in-N.is (sym (⊹-plus _ _))
