-- `records::put_head` meets its contract: the fields are written one after the other.
use Rattle.records.proofs.Replies.{head_written}
use Rattle.records.proofs.put_head.Goals as goal

pub returns : goal.returns
returns c =
    let a = c.args in
    cc (head_written a.reply.now a.t a.own)
