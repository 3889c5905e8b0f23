-- The vectors of the reader hold of the definitions, by computation.
use mathlib.Core.Path.{refl}
use Rattle.records.specs.Marks.{marked}
use Rattle.contract.specs.Expressions.{holds_empty}
use Rattle.grammar.specs.Table.{first_numbered, kind_of}
use Rattle.grammar.specs.Trees.{good_fields, node}
use Rattle.grammar.specs.Spelling.{windows}
use Rattle.grammar.specs.Reader.{operands_of, read_record, read_records, contract_records, windows_of, contract_windows, good_contract_length, read, read_test}
use Rattle.grammar.specs.Examples.{ReaderVectors}

pub reader_vectors : ReaderVectors
unfolding read_test read good_contract_length contract_windows windows_of windows contract_records read_records read_record first_numbered kind_of good_fields operands_of node marked holds_empty
reader_vectors =
    record {
      kinds_1_to_3 = refl;
      party_3_of_duty = refl;
      kinds_4_to_6 = refl;
      kind_7 = refl;
      kind_8 = refl;
      kind_9 = refl;
      kind_10 = refl;
      under_4_to_6 = refl;
      under_7_to_9 = refl;
      joint_under_4_to_6 = refl;
      joint_under_7_to_9 = refl;
      kinds_16_to_20 = refl;
      kinds_21_to_22 = refl;
      kind_23 = refl;
      windows_of_bytes = refl;
      windows_of_clauses = refl;
      lengths = refl;
      most_records = refl;
      too_many_records = refl;
      marks = refl;
      unknown_kinds = refl;
      kind_11 = refl;
      party_0 = refl;
      party_3 = refl;
      party_4 = refl;
      duty_parties = refl;
      party_3_of_second = refl;
      fields_of_joint = refl;
      action_32 = refl;
      unused_party = refl;
      unused_action = refl;
      last_byte = refl;
      last_byte_0 = refl;
      window = refl;
      fields_of_deadline = refl;
      field_of_second = refl;
      missing_operands = refl;
      missing_second = refl;
      wrong_sort = refl;
      not_one_clause = refl;
      most_pending = refl;
      empty_list = refl;
      empty_list_of_or = refl;
      empty_list_of_seq = refl;
      one_before_two = refl;
      two_before_three = refl;
      three_before_four = refl;
      four_before_five = refl;
      four_before_seven = refl;
      five_before_seven = refl;
      seven_before_six = refl;
      first_record_first = refl;
    }
