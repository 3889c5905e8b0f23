-- A field of 2 bytes is read: the number that they spell.
use Rattle.std.proofs.Common.{arith, refl, ◌∙◌, add-zero}
use Rattle.records.proofs.Bytes.{holds_spelled, spelled2}
use Rattle.records.proofs.U16Field.get.Goals as goal

pub returns : goal.returns
returns c = holds_spelled c.args.s.now c.args.at 2 _ c.requires (rw add-zero refl) (c.from_le_bytes.ensures ∙ spelled2 _ _) (omega arith)
