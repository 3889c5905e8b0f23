-- A field of 8 bytes is written: the number's bytes.
use Rattle.std.proofs.Common.{◌∙◌}
use Rattle.records.proofs.Fields.{length-bytes}
use Rattle.records.proofs.Bytes.{written8, part_copied}
use Rattle.records.proofs.U64Field.put.Goals as goal

pub returns : goal.returns
returns c =
    let a = c.args in
    let copied = c.copy_from_slice.ensures.after ∙ c.to_le_bytes.ensures ∙ written8 a.self in
    rw copied (part_copied a.s.now a.at 8 _ (length-bytes 8 a.self) c.requires)
