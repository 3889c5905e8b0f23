-- The vectors hold of the definitions, by computation.
use mathlib.Core.Path.{refl}
use Rattle.records.specs.Fields.{bytes, field, value}
use Rattle.records.specs.Marks.{marked}
use Rattle.records.specs.Refusals.{first_failing}
use Rattle.periods.specs.Forms.{either_mark}
use Rattle.periods.specs.Periods.{tries, bit, period_from}
use Rattle.periods.specs.Traces.{whole_periods, period_at, periods_of, marked_at, marks_test, form_of, form_test, start_test, period_test}
use Rattle.layout.specs.Rows.{row_of, encode, decode}
use Rattle.layout.specs.Images.{image_bytes, rows_bytes, end_bytes, row_count, rows_of, image_of, good_image_length, good_row_at, good_end}
use Rattle.layout.specs.Refusals.{image_test}
use Rattle.states.specs.States.{state_of, state_bytes, sound, all_at_most, all_zero}
use Rattle.states.specs.Refusals.{state_test, count_test}
use Rattle.machine.specs.Machine.{after_period, after_periods, computed, counted, values_after, new_values}
use Rattle.calls.specs.Reading.{state_after_records, records_read}
use Rattle.calls.specs.Refusals.{begin_test, ready_test, step_test, unread_test, decide_test}
use Rattle.records.specs.Replies.{fields_bytes, call}
use Rattle.calls.specs.Calls.{begin, step, decide}
use Rattle.contract.specs.Expressions.{holds_empty}
use Rattle.grammar.specs.Table.{first_numbered, kind_of}
use Rattle.grammar.specs.Trees.{good_fields, node}
use Rattle.grammar.specs.Reader as Reader
use Rattle.grammar.specs.Reader.{operands_of, read_record, read_records, read}
use Rattle.image.specs.Widths.{after_expression, after_clause}
use Rattle.image.specs.Blocks.{end_row, live_row, expression_rows, outputs_of, window_rows, clause_rows}
use Rattle.image.specs.Images.{rows_for, image, image_for}
use Rattle.image.specs.Examples.{lines_from, lines, replies_from, replies_on, replies, decided_replies, KindVectors, StudentVectors, DeadlineVectors, JointVectors, EndingVectors, WatchVector, EarlierVectors, DecisionVectors, RowVectors, RoomVectors}

pub student_vectors : StudentVectors
unfolding
    lines lines_from image rows_for clause_rows expression_rows outputs_of end_row after_clause after_expression state_of after_period values_after new_values
    computed counted tries bit field value
student_vectors =
    record {
      no_later_blame = refl;
      no_living_half = refl;
      no_living_clause = refl;
      right_of_then = refl;
      right_of_repair = refl;
      violation_first = refl;
    }

pub kind_vectors : KindVectors
unfolding
    lines lines_from image rows_for clause_rows expression_rows outputs_of end_row live_row holds_empty after_clause after_expression state_of after_period
    values_after new_values computed counted tries bit field value
kind_vectors =
    record { powers_and_duties = refl; accepted_second = refl; rejected_fails = refl; accepted_odd = refl }

pub deadline_vectors : DeadlineVectors
unfolding
    lines lines_from image rows_for clause_rows window_rows expression_rows outputs_of end_row after_clause after_expression state_of after_period
    values_after new_values computed counted tries bit field value
deadline_vectors =
    record {
      missed_by_own = refl;
      missed_by_other = refl;
      met_in_last = refl;
      window_of_1 = refl;
      window_of_15 = refl;
      no_life_after_success = refl;
      no_living_window = refl;
      no_living_success = refl;
    }

pub joint_vectors : JointVectors
unfolding
    lines lines_from image rows_for clause_rows outputs_of after_clause state_of after_period values_after new_values computed counted tries bit field value
joint_vectors =
    record { joint_alone = refl; joint_repeated = refl; joint_united = refl; joint_repaired = refl; joint_begun_later = refl }

pub ending_vectors : EndingVectors
unfolding
    lines lines_from image rows_for clause_rows expression_rows outputs_of end_row live_row holds_empty after_clause after_expression state_of after_period
    values_after new_values computed counted tries bit field value
ending_vectors =
    record {
      notice_in_2 = refl;
      violated_at_acceptance = refl;
      later_completes = refl;
      ends_before_first = refl;
      not_of_last_round = refl;
      nothing_before_begun = refl;
      not_from_before_begun = refl;
      no_living_expression = refl;
    }

pub watch_vector : WatchVector
unfolding
    replies replies_on replies_from decided_replies decide decide_test unread_test records_read state_after_records periods_of after_periods read Reader.good_contract_length Reader.contract_records read_records read_record first_numbered kind_of good_fields operands_of node image_for image
    rows_for clause_rows outputs_of after_clause image_bytes rows_bytes end_bytes encode begin step call begin_test step_test ready_test fields_bytes
    image_test good_image_length row_count first_failing good_row_at good_end decode row_of image_of rows_of state_test state_of state_bytes sound all_at_most all_zero
    period_test form_test start_test marks_test either_mark form_of whole_periods marked_at count_test after_period values_after new_values computed counted period_at period_from tries bit marked bytes field value
watch_vector = record { replied = refl; replied_wide = refl; decided = refl; decided_wide = refl; upper_action = refl }

pub earlier_vectors : EarlierVectors
unfolding
    replies replies_on replies_from decide decide_test unread_test records_read state_after_records periods_of after_periods read Reader.good_contract_length Reader.contract_records read_records read_record first_numbered kind_of good_fields operands_of node image_for image
    rows_for clause_rows expression_rows outputs_of end_row holds_empty after_clause after_expression image_bytes rows_bytes end_bytes encode begin step call begin_test step_test ready_test fields_bytes
    image_test good_image_length row_count first_failing good_row_at good_end decode row_of image_of rows_of state_test state_of state_bytes sound all_at_most all_zero
    period_test form_test start_test marks_test either_mark form_of whole_periods marked_at count_test after_period values_after new_values computed counted period_at period_from tries bit marked bytes field value
earlier_vectors = record { earlier_answers = refl; earlier_decided = refl; answers_now = refl; decided_now = refl }

pub decision_vectors : DecisionVectors
decision_vectors = record { records = refl }

pub row_vectors : RowVectors
unfolding
    read Reader.good_contract_length Reader.contract_records read_records read_record first_numbered kind_of good_fields operands_of node image_for image
    rows_for clause_rows window_rows expression_rows outputs_of end_row holds_empty after_clause after_expression image_bytes rows_bytes end_bytes encode row_count marked bytes field value
row_vectors =
    record {
      rows_of_window_1 = refl;
      rows_of_window_3 = refl;
      rows_of_joint = refl;
      rows_of_duty_2 = refl;
      rows_of_until = refl;
      row_counts = refl;
      most_rows = refl;
    }

pub room_vectors : RoomVectors
unfolding Reader.contract_records Reader.contract_windows Reader.windows_of
room_vectors = record { rows_for_64 = refl; bytes_for_1 = refl; bytes_for_64 = refl }
