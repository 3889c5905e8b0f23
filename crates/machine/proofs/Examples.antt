-- The vectors hold of the definitions, by computation.
use mathlib.Core.Path.{refl}
use Rattle.records.specs.Fields.{value, bytes, field}
use Rattle.records.specs.Marks.{marked}
use Rattle.periods.specs.Periods.{bit, tries}
use Rattle.layout.specs.Rows.{row_of, decode}
use Rattle.layout.specs.Images.{row_count, rows_of, image_of}
use Rattle.states.specs.States.{state_of, state_bytes}
use Rattle.machine.specs.Machine.{new_values, values_after, computed, counted, after_period, after_periods}
use Rattle.machine.specs.Examples.{MachineVectors}

pub machine_vectors : MachineVectors
unfolding
    value bytes field marked bit tries row_of decode row_count rows_of image_of state_of state_bytes new_values values_after computed counted
    after_period after_periods
machine_vectors =
    record {
      kinds = refl;
      previous_first = refl;
      own_row = refl;
      undecided = refl;
      satisfied = refl;
      violated = refl;
      violated_first = refl;
      after_decision = refl;
    }
