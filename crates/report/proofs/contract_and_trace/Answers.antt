-- `report::contract_and_trace` meets its contract.
use Rattle.report.proofs.Split.{contract_within}
use Rattle.report.proofs.contract_and_trace.Goals as goal

pub split_at-requires : goal.split_at-requires
split_at-requires c = rw c.contract_length.ensures (contract_within c.args.input.now)
