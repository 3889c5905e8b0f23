-- `records::low_half` meets its contract: the bytes of the remainder are the number's low ones.
use Rattle.records.proofs.Fields.{bytes-mod}
use Rattle.records.proofs.low_half.Goals as goal

pub returns : goal.returns
returns c = bytes-mod 2 c.args.x
