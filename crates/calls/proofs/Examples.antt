-- The vectors hold of the definitions, by computation.
use Prim.Native.Nat.{ℕ, ◌+◌}
use native.Mathlib.Omega.{arith}
use mathlib.Core.List.{List, ◌++◌}
use mathlib.Core.Path.{◌≡◌, refl}
use borrow.Author.Tests.{le-leb, lt-leb}
use Rattle.records.specs.Fields.{value, bytes, field}
use Rattle.records.specs.Marks.{marked}
use Rattle.records.specs.declared.Fault.TheVariants.{BadPeriod}
use Rattle.records.specs.Refusals.{Refused, first_failing}
use Rattle.records.specs.Replies.{fields_bytes, call}
use Rattle.periods.specs.Forms.{either_mark}
use Rattle.periods.specs.Periods.{bit, tries, period_from}
use Rattle.periods.specs.Traces.{whole_periods, period_at, periods_of, marked_at, marks_test, form_of, period_records, form_test, start_test, trace_test, period_test}
use Rattle.periods.specs.Examples.{other_record}
use Rattle.periods.proofs.Traces.{form_test_some}
use Rattle.layout.specs.Rows.{row_of, decode}
use Rattle.layout.specs.Images.{row_count, rows_of, image_of, good_image_length, good_row_at, good_end}
use Rattle.layout.specs.Refusals.{image_test}
use Rattle.states.specs.States.{state_bytes, state_of, all_at_most, all_zero, sound}
use Rattle.states.specs.Refusals.{state_test, count_test}
use Rattle.machine.specs.Machine.{new_values, values_after, computed, counted, after_period, after_periods}
use Rattle.calls.specs.Reading.{state_after_records, records_read}
use Rattle.calls.specs.Refusals.{begin_test, ready_test, step_test, run_test, unread_test, decide_test}
use Rattle.calls.specs.Calls.{begin, step, run, decide}
use Rattle.calls.specs.StepCalls.{accepted, state_after_call, state_after, accepted_count}
use Rattle.calls.specs.Examples.{RefusalVectors, CallVectors, StepCallVectors, DecideVectors, WideVectors}

-- bytes that start with a row's mark, however many
other_refused : (rest : List ℕ) → start_test (other_record ++ rest) ≡ Refused BadPeriod 0
unfolding start_test either_mark marked
other_refused rest = rw (form_test_some (other_record ++ rest) (omega arith))

pub call_vectors : RefusalVectors × CallVectors × StepCallVectors × DecideVectors × WideVectors
unfolding
    value bytes field marked first_failing fields_bytes call either_mark form_of bit tries period_from whole_periods period_at periods_of marked_at marks_test
    form_test start_test trace_test period_test row_of decode row_count rows_of image_of good_image_length good_row_at good_end image_test state_bytes state_of all_at_most all_zero sound
    state_test count_test new_values values_after computed counted after_period after_periods begin_test ready_test step_test run_test begin step run
    accepted state_after_call state_after accepted_count state_after_records records_read unread_test decide_test decide
call_vectors = (
  record {
    by_9 = refl;
    by_10 = refl;
    by_11 = refl;
    by_11_mark = refl;
    by_12 = refl;
    bad_row = refl;
    bad_end = refl;
    bad_record = refl;
    full_at_1 = refl;
  },
  record {
    begun = refl;
    one_row = refl;
    still_open = refl;
    broken_now = refl;
    broken_later = refl;
    last_period = refl;
    run_of_two = refl;
    run_of_none = refl;
    no_room = refl;
    just_room = refl;
  },
  record { counted = refl; left = refl },
  record {
    undecided = refl;
    violated = refl;
    each_outcome = refl;
    bad_after = refl;
    bad_before = refl;
    bad_undecided = refl;
    bad_deciding = refl;
    bad_length = refl;
    start_first = λ trace e. rw e;
    too_many = λ trace e n. rw (e, lt-leb (0 + period_records trace) 4294967295 (omega arith));
    not_too_many = λ trace e n. rw (e, le-leb (0 + period_records trace) 4294967295 (omega arith));
    image_first = λ trace. refl;
    bad_images = refl;
    short_area = refl;
    full_area = refl;
  },
  record {
    upper_action = refl;
    wide_run = refl;
    either_form = refl;
    other_form_step = refl;
    other_form_run = refl;
    bad_in_both = refl;
    wide_count = refl;
    wide_decided = refl;
    other_form_decided = refl;
    first_mark_first = λ rest. rw (other_refused rest);
    fewest = refl;
  },
)
