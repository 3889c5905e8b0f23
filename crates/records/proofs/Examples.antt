-- The vectors hold of the definitions, by computation.
use mathlib.Core.Path.{refl}
use Rattle.records.specs.Fields.{value, bytes, field}
use Rattle.records.specs.Marks.{marked}
use Rattle.records.specs.Replies.{fields_bytes, call}
use Rattle.records.specs.Examples.{RecordVectors}

pub record_vectors : RecordVectors
unfolding bytes field value marked fields_bytes call
record_vectors =
    record {
      marks = refl;
      mark_bytes = refl;
      low_byte_first = refl;
      fields_read = refl;
      verdict_numbers = refl;
      verdict_names = refl;
      verdict_after = refl;
      accepted = refl;
      refused = refl;
      place_bytes = refl;
      no_room = refl;
      room = refl;
      head_read = refl;
    }
