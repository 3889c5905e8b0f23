-- `report::verdict_name` meets its contract.
use Rattle.report.proofs.verdict_name.Goals as goal

pub returns-in-Open : goal.returns-in-Open
returns-in-Open c = rw c.in-Open.is

pub returns-in-Met : goal.returns-in-Met
returns-in-Met c = rw c.in-Met.is

pub returns-in-Broken : goal.returns-in-Broken
returns-in-Broken c = rw c.in-Broken.is

pub returns-in-MetAfter : goal.returns-in-MetAfter
returns-in-MetAfter c = rw c.in-MetAfter.is

pub returns-in-BrokenAfter : goal.returns-in-BrokenAfter
returns-in-BrokenAfter c = rw c.in-BrokenAfter.is
