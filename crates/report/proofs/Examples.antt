-- The vectors hold of the definitions, by computation.
use mathlib.Core.Path.{refl}
use Rattle.records.specs.Fields.{field, value}
use Rattle.records.specs.Marks.{marked}
use Rattle.records.specs.Refusals.{first_failing}
use Rattle.periods.specs.Forms.{either_mark}
use Rattle.periods.specs.Periods.{tries, bit, period_from}
use Rattle.periods.specs.Traces.{whole_periods, period_at, periods_of, marked_at, marks_test, form_of, form_test, start_test, trace_test}
use Rattle.contract.specs.Expressions.{holds_empty}
use Rattle.contract.specs.Meaning.{meaning, repeat_meaning}
use Rattle.grammar.specs.Table.{first_numbered, kind_of}
use Rattle.grammar.specs.Trees.{good_fields, node}
use Rattle.grammar.specs.Reader as Reader
use Rattle.grammar.specs.Reader.{operands_of, read_record, read_records, read}
use Rattle.report.specs.Texts.{digits, decimal, period_line, decided_line, refused_line}
use Rattle.report.specs.Split.{unmarked_six, first_period, contract_length}
use Rattle.report.specs.Reports.{meant_line, period_lines, lines, on_trace, report}
use Rattle.report.specs.Examples.{ReportVectors}
use Rattle.report.proofs.Reports.{too_long}

pub report_vectors : ReportVectors
unfolding
    report contract_length first_period unmarked_six first_failing either_mark form_of whole_periods marked_at marked read Reader.good_contract_length Reader.contract_records read_records read_record first_numbered
    kind_of good_fields operands_of node on_trace trace_test start_test form_test marks_test lines period_lines meant_line periods_of period_at period_from field value meaning repeat_meaning
    tries bit period_line decided_line refused_line decimal digits holds_empty
report_vectors =
    record {
      watched = refl;
      watched_wide_lem = refl;
      upper_action = refl;
      wide_starts = refl;
      first_mark = refl;
      mixed = refl;
      contract_only = refl;
      text_bytes_lem = refl;
      numbers = refl;
      period_lines_lem = refl;
      decided_lines = refl;
      refused_lines = refl;
      ten_periods = refl;
      decided_first = refl;
      never_decided = refl;
      both_blamed = refl;
      small_inputs_lem = refl;
      trace_only = refl;
      cut_record = refl;
      cut_contract = refl;
      too_long = λ input h. too_long input h;
      longest = λ trace e. rw e;
      bad_mark = refl;
      contract_first = refl;
    }
