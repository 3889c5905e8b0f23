-- The vectors hold of the definitions, by computation.
use mathlib.Core.Path.{refl}
use Rattle.records.specs.Fields.{value, bytes, field}
use Rattle.records.specs.Marks.{marked}
use Rattle.records.specs.Refusals.{first_failing}
use Rattle.layout.specs.Rows.{encode, row_of, decode}
use Rattle.layout.specs.Images.{rows_bytes, end_bytes, image_bytes, row_count, rows_of, image_of, good_image_length, good_row_at, good_end}
use Rattle.layout.specs.Refusals.{image_test}
use Rattle.layout.specs.Examples.{ImageVectors}

pub image_vectors : ImageVectors
unfolding
    value bytes field marked first_failing encode row_of decode rows_bytes end_bytes image_bytes row_count rows_of image_of
    good_image_length good_row_at good_end image_test
image_vectors =
    record {
      encoded = refl;
      decoded = refl;
      image_bytes_lem = refl;
      image_read = refl;
      rows_of_32 = refl;
      lengths = refl;
      longest = refl;
      one_row = refl;
      one_row_end = refl;
      row_0_of_kind_3 = refl;
      good_rows = refl;
      higher_row = refl;
      bad_marks = refl;
      bad_attempts = refl;
      bad_names = refl;
      unused_fields = refl;
      ends = refl;
      first_bad = refl;
    }
