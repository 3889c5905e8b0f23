-- `machine::trim` meets its contract: the first bits of the rows' part stand in its place.
use Rattle.machine.proofs.Trimming.{trimmed_put}
use Rattle.machine.proofs.trim.Goals as goal

pub returns : goal.returns
returns c = trimmed_put c.args.state.now c.keep_first.new.values c.keep_first.ensures
