-- `states::block_at_most` meets its contract: the greatest value is tested.
use mathlib.Core.Path.{◌≡◌}
use Rattle.std.proofs.Common.{rules}
use Rattle.std.specs.List.{fold}
use Rattle.std.specs.Prelude.{max}
use Rattle.states.proofs.Values.{all_at_most_greatest}
use Rattle.states.proofs.block_at_most.Goals as goal

pub returns : goal.returns
returns c =
    let vs = c.args.values.now in
    let greatest : c.fold.result ≡ fold max 0 vs = search rules in
    rw greatest (all_at_most_greatest c.args.top vs)
