-- The image of a contract in the image buffer: the fixed rows, the clause's rows behind them and the end record are the image's bytes.
use Prim.Native.Nat.{ℕ, ◌+◌, ◌*◌, ◌≤◌}
use native.Mathlib.Nat.{zero-add}
use native.Mathlib.Omega.{arith}
use mathlib.Core.List.{List, [], ◌∷◌, map}
use mathlib.Core.Path.{◌≡◌, refl, ap, ◌∙◌}
use lib.ListN.{length}
use lib.Seq.{sets, take_all, length-sets}
use Rattle.records.specs.Fields.{bytes}
use Rattle.records.proofs.Written.{sets-append}
use Rattle.layout.specs.Limits.{row_bytes}
use Rattle.layout.specs.Rows.{never, initial, negation, kind, row_record}
use Rattle.layout.specs.Images.{rows_bytes, end_record, end_bytes, image_bytes, row_count}
use Rattle.layout.proofs.ImageBytes.{length-rows_bytes, row_count-image_bytes}
use Rattle.contract.specs.Meaning.{Clause}
use Rattle.grammar.specs.Limits.{record_bytes}
use Rattle.grammar.specs.declared.Sort.TheVariants.{Clause as clause}
use Rattle.grammar.specs.Spelling.{records, windows}
use Rattle.grammar.specs.Reader.{contract_records, contract_windows}
use Rattle.grammar.proofs.Spelling.{length-spell}
use Rattle.grammar.proofs.Reader.{taken_count}
use Rattle.grammar.proofs.WindowSum.{spelled_windows, windows-max}
use Rattle.image.specs.Widths.{never_row, first_row, later_row, fixed_rows, after_clause}
use Rattle.image.specs.Blocks.{clause_rows}
use Rattle.image.specs.Images as Images
use Rattle.image.specs.Images.{rows_for, image_for}
use Rattle.image.proofs.Sizes.{rows_allowed}
use Rattle.emitter.specs.declared.Block.{Block}
use Rattle.emitter.specs.Rows.{numbers_of, numbers_bytes, written_rows}
use Rattle.emitter.specs.Blocks.{block_of, EndsWith, Emitted}
use Rattle.emitter.specs.Premises.{Emits, Writes}
use Rattle.emitter.proofs.Writing.{numbers_bytes_lem, length-written, written_after}
use Rattle.emitter.proofs.Plans.{after_tree_lem}

-- ---- the fixed rows

-- a buffer with them written
abbrev pub with_fixed_rows : List ℕ → List ℕ
with_fixed_rows image = written_rows image 0 (map numbers_of (never ∷ initial ∷ negation first_row ∷ []))

-- one after the other
pub fixed_rows-written : (image : List ℕ)
    → sets (sets (sets image (row_bytes * never_row) (row_record (kind never) 0 0)) (row_bytes * first_row) (row_record (kind initial) 0 0))
    (row_bytes * later_row) (row_record (kind (negation first_row)) first_row 0)
    ≡ with_fixed_rows image
unfolding written_rows numbers_bytes bytes
fixed_rows-written image = refl

-- ---- the image of a clause

module _ (c : Clause) where
  -- the row after the clause's rows
  after_rows : after_clause c fixed_rows ≡ length (rows_for c)
  unfolding rows_for
  after_rows = omega (arith, after_tree_lem clause c fixed_rows first_row later_row)

  rows_written : (image : List ℕ)
      → written_rows (with_fixed_rows image) fixed_rows (map numbers_of (clause_rows c fixed_rows first_row later_row [])) ≡ sets image 0 (rows_bytes (rows_for c))
  unfolding rows_for written_rows
  rows_written image = written_after image 0 fixed_rows _ _ refl ∙ ap (sets image 0) (numbers_bytes_lem (rows_for c))

  -- and the end record
  image_written : (image : List ℕ)
      → sets (sets image 0 (rows_bytes (rows_for c))) (row_bytes * after_clause c fixed_rows) (end_bytes (Images.image c))
      ≡ sets image 0 (image_bytes (Images.image c))
  unfolding image_bytes Images.image
  image_written image = rw (after_rows, sets-append, zero-add, length-rows_bytes)

-- ---- the program's image

module _ (contract : List ℕ) (n : ℕ) (image : List ℕ) (w : Writes contract n image) where
  abbrev c : Clause
  c = w.taken.clause

  image_for_is : image_for contract ≡ image_bytes (Images.image c)
  unfolding image_for
  image_for_is = rw w.taken.is

  length_contract : length contract ≡ record_bytes * n
  length_contract = rw (w.taken.spells.bytes, w.taken.count) (length-spell c)

  ends : EndsWith contract n 0 clause c
  ends =
      record {
        whole = omega (arith, length_contract);
        count = rw zero-add w.taken.count;
        spelled = take_all (record_bytes * n) contract (omega (arith, length_contract)) ∙ w.taken.spells.bytes;
      }

  records_are : contract_records contract ≡ records c
  records_are = taken_count contract c w.taken.is

  windows_are : contract_windows contract ≡ windows c
  windows_are = spelled_windows contract c w.taken.spells

  -- there is room for the rows and the end record
  room : row_bytes * (after_clause c fixed_rows + 1) ≤ length image
  room = omega (arith, after_rows c, rows_allowed c, records_are, windows_are, w.room)

  pub emits : Emits contract n (with_fixed_rows image) fixed_rows first_row later_row
  emits =
      record {
        before = 0;
        sort = clause;
        tree = c;
        ends = ends;
        room = rw length-written (omega (arith, room));
        few = omega (arith, after_rows c, rows_allowed c, windows-max c w.taken.spells.in_range, w.taken.spells.few_records);
        begins = omega arith;
        goes_on = omega arith;
      }

  module _ (later : List ℕ) (r : Block) (e : Emitted contract n (with_fixed_rows image) fixed_rows first_row later_row later r) where
    block_is : r ≡ block_of clause c 0 fixed_rows first_row
    block_is = (e.tree_is 0 clause c ends).1

    rows_are : later ≡ sets image 0 (rows_bytes (rows_for c))
    rows_are = (e.tree_is 0 clause c ends).0 ∙ rows_written c image

    -- there are the fixed rows at least, and room for the end record
    pub end_room : (fixed_rows ≤ r.next) × (row_bytes * r.next + row_bytes ≤ length later)
    end_room = rw (block_is, rows_are, length-sets) (omega (arith, room, after_tree_lem clause c fixed_rows first_row later_row))

    pub image_is : sets later (row_bytes * r.next) (end_record r.sat r.one r.two) ≡ sets image 0 (image_for contract)
    unfolding end_bytes Images.image
    image_is = rw (block_is, rows_are, image_for_is) (image_written c image)

    pub count_is : r.next ≡ row_count (image_for contract)
    unfolding Images.image
    count_is = rw (block_is, image_for_is, row_count-image_bytes) (after_rows c)
