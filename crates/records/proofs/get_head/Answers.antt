-- `records::get_head` meets its contract: each field is read at its place.
use Rattle.records.proofs.get_head.Goals as goal

pub returns : goal.returns
returns c = rw (c.get.ensures.is, c.get-2.ensures.is, c.get-3.ensures.is)
