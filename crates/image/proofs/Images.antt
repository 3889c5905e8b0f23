-- The image of every contract that is taken is right for its clause, and has as many rows as it should.
use Prim.Native.Nat.{ℕ}
use mathlib.Core.List.{List}
use mathlib.Core.Path.{◌≡◌}
use Rattle.layout.proofs.ImageBytes.{image_test-image_bytes, image_of-image_bytes, row_count-image_bytes}
use Rattle.states.proofs.Fresh.{fresh_read}
use Rattle.contract.specs.Meaning.{Clause}
use Rattle.grammar.specs.Reader.{taken, read}
use Rattle.grammar.proofs.Reader.{taken_spells, taken_count}
use Rattle.grammar.proofs.WindowSum.{spelled_windows}
use Rattle.image.specs.Images.{image, image_for}
use Rattle.image.specs.Rightness.{RightFor, SizedFor}
use Rattle.image.proofs.Sizes.{length-rows_for, rows_max, rows_allowed}
use Rattle.image.proofs.Goodness.{writable}
use Rattle.image.proofs.Root.{shows}

pub right_for : (contract : List ℕ) (c : Clause) → read contract ≡ taken c → RightFor c (image_for contract)
unfolding image_for
right_for contract c e =
    let s = taken_spells contract c e in
    let good = writable c s.in_range s.few_records in
    rw e record {
      good = image_test-image_bytes (image c) good;
      shows = λ w.
          rw (image_of-image_bytes (image c) good, fresh_read, row_count-image_bytes) (shows c s.in_range s.empty_free s.few_records w);
    }

pub sized_for : (contract : List ℕ) (c : Clause) → read contract ≡ taken c → SizedFor contract c (image_for contract)
unfolding image_for image
sized_for contract c e =
    rw e record {
      rows_are = rw row_count-image_bytes (length-rows_for c);
      rows_max = rw (row_count-image_bytes, taken_count contract c e, spelled_windows contract c (taken_spells contract c e)) (rows_max c);
      rows_allowed = rw (row_count-image_bytes, taken_count contract c e, spelled_windows contract c (taken_spells contract c e)) (rows_allowed c);
    }
