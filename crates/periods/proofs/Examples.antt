-- The vectors hold of the definitions, by computation.
use mathlib.Core.Path.{refl}
use Rattle.records.specs.Fields.{bytes, value, field}
use Rattle.records.specs.Marks.{marked}
use Rattle.records.specs.Refusals.{first_failing}
use Rattle.periods.specs.Forms.{either_mark}
use Rattle.periods.specs.Periods.{bit, tries, succeeds, period_from}
use Rattle.periods.specs.Traces.{whole_periods, record_at, first_records, period_at, periods_of, marked_at, marks_test, form_of, form_test, start_test, trace_test, period_test}
use Rattle.periods.specs.Making.{record_of, records_of}
use Rattle.periods.specs.Examples.{PeriodVectors}

pub period_vectors : PeriodVectors
unfolding
    field value bytes marked first_failing either_mark form_of bit tries succeeds period_from whole_periods record_at first_records period_at periods_of marked_at marks_test
    record_of records_of form_test start_test trace_test period_test
period_vectors =
    record {
      actions_32 = refl;
      party_numbers_lem = refl;
      parties = refl;
      other_parties = refl;
      form_marks = refl;
      mask_bytes_lem = refl;
      period_bytes_lem = refl;
      forms = refl;
      either_marks = refl;
      narrow_masks = refl;
      wide_masks = refl;
      record_counts = refl;
      first_records_lem = refl;
      second_record = refl;
      narrow_records = refl;
      wide_records = refl;
      in_wide_lem = refl;
      too_narrow = refl;
      tried_bits = refl;
      upper_narrow = refl;
      upper_wide = refl;
      tried_by_1 = refl;
      tried_by_2 = refl;
      succeeded = refl;
      narrow_steps = refl;
      wide_steps = refl;
      other_steps = refl;
      other_form_steps = refl;
      narrow_traces = refl;
      wide_traces = refl;
      other_traces = refl;
      five_taken = refl;
      narrow_marks = refl;
      wide_marks = refl;
      other_forms = refl;
      length_first = refl;
      first_tests = refl;
      start_tests = refl;
      first_marks = refl;
    }
