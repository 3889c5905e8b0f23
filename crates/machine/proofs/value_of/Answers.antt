-- `machine::value_of` meets its contract: the rows, the party and the action that the row names.
use Rattle.machine.proofs.RowKinds.{the_party, fields_named, value_by_kind}
use Rattle.machine.proofs.value_of.Goals as goal

pub tried-requires : goal.tried-requires
tried-requires c = (rw c.in-Attempt.is at (fields_named c.requires)).1

pub new_value-requires : goal.new_value-requires
new_value-requires c = rw c.in-Not.is at (fields_named c.requires)

pub bounds-values-x : goal.bounds-values-x
bounds-values-x c = (rw c.in-And.is at (fields_named c.requires)).0

pub bounds-values-y : goal.bounds-values-y
bounds-values-y c = (rw c.in-And.is at (fields_named c.requires)).1

pub bounds-values-x-in-Or : goal.bounds-values-x-in-Or
bounds-values-x-in-Or c = (rw c.in-Or.is at (fields_named c.requires)).0

pub bounds-values-y-in-Or : goal.bounds-values-y-in-Or
bounds-values-y-in-Or c = (rw c.in-Or.is at (fields_named c.requires)).1

pub old_value-requires : goal.old_value-requires
old_value-requires c = rw c.in-Previous.is at (fields_named c.requires)

pub returns-in-Attempt : goal.returns-in-Attempt
returns-in-Attempt c =
    rw (value_by_kind c.requires, c.in-Attempt.is) (c.tried.ensures (the_party c.args.row.x) (rw c.in-Attempt.is at (fields_named c.requires)).0)
