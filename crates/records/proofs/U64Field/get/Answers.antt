-- A field of 8 bytes is read: the number that they spell.
use Rattle.std.proofs.Common.{arith, refl, ◌∙◌, add-zero}
use Rattle.records.proofs.Bytes.{holds_spelled, spelled8}
use Rattle.records.proofs.U64Field.get.Goals as goal

pub returns : goal.returns
returns c = holds_spelled c.args.s.now c.args.at 8 _ c.requires (rw add-zero refl) (c.from_le_bytes.ensures ∙ spelled8 _ _ _ _ _ _ _ _) (omega arith)
