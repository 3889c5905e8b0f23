-- `records::put_reply` meets its contract: a word for each turn of the loop.
use Rattle.records.proofs.Replies.{word_written}
use Rattle.records.proofs.put_reply.Goals as goal

pub loop-k-preserved : goal.loop-k-preserved
loop-k-preserved c =
    let a = c.args in
    rw (c.put.ensures, c.loop-k.invariant) (word_written a.reply.now a.t a.own a.others.now c.loop-k.k c.loop-k-test.true)
