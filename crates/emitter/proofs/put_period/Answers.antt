-- `emitter::put_period` meets its contract: three rows, one behind the other.
use Rattle.emitter.proofs.Periods.{written_period}
use Rattle.emitter.proofs.put_period.Goals as goal

pub returns : goal.returns
returns c = written_period _ _ _ _ _ _ _ _ c.put_row.ensures c.put_row-2.ensures c.put_row-3.ensures
