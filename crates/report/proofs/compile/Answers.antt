-- `report::compile` meets its contract: refused exactly where the reply's number is not 0.
use Rattle.report.proofs.Reports.{refused_contract, taken_contract}
use Rattle.report.proofs.compile.Goals as goal

pub returns-then-head-ne0-clause-refused : goal.returns-then-head-ne0-clause-refused
returns-then-head-ne0-clause-refused c = refused_contract (record { result = c.monitor_compile.result; reply = c.monitor_compile.new.reply; compiles = c.monitor_compile.ensures; head_is = c.get_head-head.ensures }) c.requires c.if-head-ne0.true

pub returns-clause-rows : goal.returns-clause-rows
returns-clause-rows c = taken_contract (record { result = c.monitor_compile.result; reply = c.monitor_compile.new.reply; compiles = c.monitor_compile.ensures; head_is = c.get_head-head.ensures }) c.requires c.if-head-ne0.false
