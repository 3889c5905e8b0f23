-- The vectors hold of the definitions, by computation.
use mathlib.Core.Path.{refl}
use Rattle.records.specs.Fields.{value, bytes, field}
use Rattle.states.specs.States.{state_bytes, state_of, all_at_most, all_zero, sound}
use Rattle.states.specs.Refusals.{state_test, count_test}
use Rattle.states.specs.Examples.{StateVectors}

pub state_vectors : StateVectors
unfolding value bytes field state_bytes state_of all_at_most all_zero sound state_test count_test
state_vectors =
    record {
      written = refl;
      read = refl;
      fresh = refl;
      lengths = refl;
      lengths_alone = refl;
      outcomes = refl;
      values = refl;
      decided_values = refl;
      blames_of_2 = refl;
      blames_of_others = refl;
      decisions = refl;
      decided_by_now = refl;
      none_taken = refl;
      verdicts = refl;
      one_left = refl;
      none_left = refl;
      most_records = refl;
    }
