-- The invariant of the loop of `records::put_reply`: the first words stand behind the place.
use Rattle.std.proofs.Common.{◌≡◌, take}
use Rattle.std.proofs.lemmas.List.Edits.{sets}
use Rattle.records.specs.Replies.{words, reply_of}
use Rattle.records.proofs.put_reply.Given as goal

abbrev pub invariant-loop-k : goal.invariant-loop-k
invariant-loop-k l = l.reply ≡ sets l.fn.reply 0 (reply_of l.fn.t (words l.fn.own (take l.k l.others)))
