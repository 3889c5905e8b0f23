-- A field of 2 bytes is written: the number's bytes.
use Rattle.std.proofs.Common.{◌∙◌}
use Rattle.records.proofs.Fields.{length-bytes}
use Rattle.records.proofs.Bytes.{written2, part_copied}
use Rattle.records.proofs.U16Field.put.Goals as goal

pub returns : goal.returns
returns c =
    let a = c.args in
    let copied = c.copy_from_slice.ensures.after ∙ c.to_le_bytes.ensures ∙ written2 a.self in
    rw copied (part_copied a.s.now a.at 2 _ (length-bytes 2 a.self) c.requires)
