-- `report::follow` meets its contract: the state that begin leaves follows the clause, and the lines are put from there.
use native.Mathlib.Omega.{arith}
use Rattle.report.proofs.Following.{may_list, all_followed}
use Rattle.report.proofs.follow.Goals as goal

pub put_lines-requires : goal.put_lines-requires
put_lines-requires c =
    rw c.period_records.ensures (may_list c.requires _ _ (omega arith) c.monitor_begin.ensures.buffers_are)

pub returns : goal.returns
returns c =
    all_followed c.requires _ _ (omega arith) c.monitor_begin.ensures.buffers_are (rw c.period_records.ensures at c.put_lines.ensures)
