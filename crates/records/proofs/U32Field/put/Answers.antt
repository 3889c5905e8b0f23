-- A field of 4 bytes is written: the number's bytes.
use Rattle.std.proofs.Common.{◌∙◌}
use Rattle.records.proofs.Fields.{length-bytes}
use Rattle.records.proofs.Bytes.{written4, part_copied}
use Rattle.records.proofs.U32Field.put.Goals as goal

pub returns : goal.returns
returns c =
    let a = c.args in
    let copied = c.copy_from_slice.ensures.after ∙ c.to_le_bytes.ensures ∙ written4 a.self in
    rw copied (part_copied a.s.now a.at 4 _ (length-bytes 4 a.self) c.requires)
