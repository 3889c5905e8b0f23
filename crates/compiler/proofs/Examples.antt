-- The vectors of compile hold of the definitions, by computation.
use mathlib.Core.Path.{refl}
use Rattle.records.specs.Fields.{bytes}
use Rattle.records.specs.Marks.{marked}
use Rattle.records.specs.Replies.{fields_bytes, call}
use Rattle.layout.specs.Rows.{encode}
use Rattle.layout.specs.Images.{image_bytes, rows_bytes, end_bytes, row_count}
use Rattle.contract.specs.Expressions.{holds_empty}
use Rattle.grammar.specs.Table.{first_numbered, kind_of}
use Rattle.grammar.specs.Trees.{good_fields, node}
use Rattle.grammar.specs.Reader as Reader
use Rattle.grammar.specs.Reader.{operands_of, read_record, read_records, read, read_test}
use Rattle.image.specs.Widths.{after_clause}
use Rattle.image.specs.Blocks.{outputs_of, window_rows, clause_rows}
use Rattle.image.specs.Images.{rows_for, image, image_for}
use Rattle.compiler.specs.Examples.{CompileVectors}
use Rattle.compiler.specs.Refusals.{compile_test}
use Rattle.compiler.specs.Calls.{compile}

pub compile_vectors : CompileVectors
unfolding
    compile compile_test call fields_bytes read_test read Reader.good_contract_length Reader.contract_records Reader.contract_windows Reader.windows_of read_records read_record first_numbered kind_of good_fields operands_of node image_for image
    rows_for window_rows clause_rows outputs_of after_clause image_bytes rows_bytes end_bytes encode row_count marked bytes holds_empty
compile_vectors = record { taken = refl; joint_taken = refl; small_inputs_lem = refl; small_inputs_with_room = refl; short_for_one = refl; short_for_two = refl; enough_for_two = refl; deadline_taken = refl; short_for_window = refl; short_for_windows = refl; room = refl; no_room = refl }
