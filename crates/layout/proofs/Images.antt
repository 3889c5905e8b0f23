-- Bytes that are an image: what refusal 9 tests, and the rows and the end record that such bytes hold. Document 01, "Image and row machine".
use Prim.Native.Nat.{ℕ, zero, suc, ◌+◌, ◌-◌, ◌*◌, ◌%◌, ◌≤◌, ◌<◌}
use native.Mathlib.Nat.{add_assoc}
use native.Mathlib.Numerals.{add-one}
use native.Mathlib.Omega.{arith}
use mathlib.Core.Path.{◌≡◌, refl, ◌∙◌}
use mathlib.Core.Bool.{true, ◌&&◌, and-eq-true_iff, false≢true}
use mathlib.Core.Logic.{⊎_elim}
use mathlib.Core.Option
use mathlib.Core.Option.{Option, none, some}
use mathlib.Core.List.{List, [], ◌∷◌}
use lib.Dec.{eqb}
use lib.ListN.{length, get_or, length-append, get_or-append}
use lib.Seq.{get_or_at, sets}
use borrow.Author.Tests.{eq-eqb, le-leb, eqb-true, leb-true, ltb-true}
use Rattle.std.specs.Prelude.{Result, Ok, Err}
use Rattle.std.specs.Result.{result_unwrap_or}
use Rattle.records.specs.Fields.{bytes, field}
use Rattle.records.specs.Marks.{row_mark, end_mark, marked}
use Rattle.records.specs.declared.Fault.{Fault}
use Rattle.records.specs.declared.Fault.TheVariants.{BadImage}
use Rattle.records.specs.Refusals.{Passed, require, first_of, first_failing}
use Rattle.records.proofs.Cases.{lt_or_le}
use Rattle.records.proofs.Fields.{length-bytes}
use Rattle.records.proofs.Written.{sets-append}
use Rattle.records.proofs.Searches.{all_pass, all_passed}
use Rattle.records.proofs.Refusals.{first_passed, require-passed, only_for, only_require, only_first}
use Rattle.layout.specs.Limits.{row_bytes, max_rows}
use Rattle.layout.specs.Rows.{Row, never, row_in, decode, names_rows, good_row}
use Rattle.layout.specs.declared.RowKind.{RowKind}
use Rattle.layout.specs.declared.NoRowKind.{NoRowKind}
use Rattle.layout.specs.Fields.{row_from, ReadsKind, fields_in, end_in}
use Rattle.layout.specs.Images.{end_record, row_count, rows_of, image_of, good_image_length, good_row_at, good_end}
use Rattle.layout.specs.Refusals.{image_test}
use Rattle.layout.proofs.Rows.{cond_some, names_any, no_kind}

-- ---- the length

module _ (l : List ℕ) where
  pub right_length : length l % row_bytes ≡ 0 → row_bytes * 2 ≤ length l → length l ≤ row_bytes * (max_rows + 1) → good_image_length l ≡ true
  unfolding good_image_length
  right_length e h i = rw (eq-eqb (length l % row_bytes) 0 e, le-leb (row_bytes * 2) (length l) h, le-leb (length l) (row_bytes * (max_rows + 1)) i)

  length_facts : good_image_length l ≡ true → (length l % row_bytes ≡ 0) × (row_bytes * 2 ≤ length l) × (length l ≤ row_bytes * (max_rows + 1))
  unfolding good_image_length
  length_facts e =
      let w = simp and-eq-true_iff at e in
      (eqb-true (length l % row_bytes) 0 w.0.0, leb-true (row_bytes * 2) (length l) w.0.1, leb-true (length l) (row_bytes * (max_rows + 1)) w.1)

-- ---- bytes that are an image

pub record GoodImage (l : List ℕ) : Type 0 where
  pub count : length l ≡ row_bytes * (row_count l + 1)
  pub some_rows : 1 ≤ row_count l
  pub few_rows : row_count l ≤ max_rows
  pub each : (k : ℕ) → k < row_count l → good_row_at l (row_count l) k ≡ true
  pub ends : good_end l (row_count l) ≡ true

-- the row count of a right length
module _ (l : List ℕ) (n : ℕ) (e : length l ≡ row_bytes * (n + 1)) where
  pub row_count_of : row_count l ≡ n
  unfolding row_count
  row_count_of = omega arith

  counted-length : 1 ≤ n → n ≤ max_rows → good_image_length l ≡ true
  counted-length h i = right_length l (omega arith) (omega arith) (omega arith)

row_count_facts : (l : List ℕ) → good_image_length l ≡ true → (length l ≡ row_bytes * (row_count l + 1)) × (1 ≤ row_count l) × (row_count l ≤ max_rows)
unfolding row_count
row_count_facts l e =
    let f = length_facts l e in
    (omega arith, omega arith, omega arith)

pub passed_good : (l : List ℕ) → image_test l ≡ Passed → GoodImage l
unfolding image_test
passed_good l e =
    let n = row_count l in
    let bad = first_failing (good_row_at l n) 0 n in
    let u = first_passed (require (good_image_length l) BadImage 0) _ e in
    let v = first_passed (require (eqb bad n) BadImage bad) _ u.1 in
    let f = row_count_facts l (require-passed (good_image_length l) BadImage 0 u.0) in
    let b = eqb-true bad n (require-passed (eqb bad n) BadImage bad v.0) in
    record {
      count = f.0;
      some_rows = f.1;
      few_rows = f.2;
      each = all_passed (good_row_at l n) n b;
      ends = require-passed (good_end l n) BadImage n v.1;
    }

pub good_passed : (l : List ℕ) → GoodImage l → image_test l ≡ Passed
unfolding image_test
good_passed l g =
    let n = row_count l in
    rw (counted-length l n g.count g.some_rows g.few_rows, eq-eqb (first_failing (good_row_at l n) 0 n) n (all_pass (good_row_at l n) n g.each), g.ends)

-- ---- the rows that bytes hold

pub length-rows_of : (l : List ℕ) (n : ℕ) → length (rows_of l n) ≡ n
unfolding rows_of
length-rows_of l zero = refl
length-rows_of l (suc n) = rw (length-append, length-rows_of l n, add-one)

pub get_or-rows_of : (l : List ℕ) (n k : ℕ) → k < n → get_or (rows_of l n) k never ≡ Option.get_or (decode l (row_bytes * k)) never
unfolding rows_of
get_or-rows_of l zero k h = absurd (omega arith)
get_or-rows_of l (suc n) k h =
    let last : Row = Option.get_or (decode l (row_bytes * n)) never in
    ⊎_elim
    (λ i. get_or-append (rows_of l n) (last ∷ []) never k (rw length-rows_of i) ∙ get_or-rows_of l n k i)
    (λ i. let s : k ≡ n = omega arith in rw s (get_or_at (rows_of l n) last [] never n (length-rows_of l n)))
    (lt_or_le k n)

-- ---- the rows of an image, and those that decide

-- row k is the one that its bytes hold, and names rows of the image
pub record GoodRow (l : List ℕ) (k : ℕ) (r : Row) : Type 0 where
  pub is : decode l (row_bytes * k) ≡ some r
  pub names : names_rows k (row_count l) r ≡ true

good_some : (k n : ℕ) (o : Option Row) → good_row k n o ≡ true
    → (o ≡ some (Option.get_or o never)) × (names_rows k n (Option.get_or o never) ≡ true)
good_some k n none e = absurd (false≢true e)
good_some k n (some r) e = (refl, e)

module _ (l : List ℕ) (g : GoodImage l) where
  pub good_row_lem : (k : ℕ) → k < row_count l → GoodRow l k (get_or (image_of l).rows k never)
  unfolding image_of good_row_at
  good_row_lem k h =
      let w = good_some k (row_count l) (decode l (row_bytes * k)) (g.each k h) in
      rw (get_or-rows_of l (row_count l) k h) record { is = w.0; names = w.1 }

  end_facts : ((image_of l).S < row_count l) × ((image_of l).V1 < row_count l) × ((image_of l).V2 < row_count l)
  unfolding image_of good_end
  end_facts =
      let n = row_count l in
      let at = row_bytes * n in
      let e = simp and-eq-true_iff at g.ends in
      (ltb-true (field l (at + 2) 2) n e.0.0.1, ltb-true (field l (at + 4) 2) n e.0.1, ltb-true (field l (at + 6) 2) n e.1)

  pub good_S : (image_of l).S < row_count l
  good_S = end_facts.0

  pub good_V1 : (image_of l).V1 < row_count l
  good_V1 = end_facts.1

  pub good_V2 : (image_of l).V2 < row_count l
  good_V2 = end_facts.2

-- ---- the bytes of a good image's rows

module _ (l : List ℕ) (h : image_test l ≡ Passed) (k : ℕ) (i : k < row_count l) where
  pub row_fits : row_bytes * k + row_bytes ≤ length l
  row_fits = let g = passed_good l h in omega arith

  -- what the bytes of row k hold
  pub row_held : row_in l (row_bytes * k) ≡ some (get_or (image_of l).rows k never)
  unfolding decode
  row_held =
      let at = row_bytes * k in
      (cond_some (marked l at row_mark && eqb (get_or l (at + 3) 0) 0) (row_in l at) (get_or (image_of l).rows k never) (good_row_lem l (passed_good l h) k i).is).1

  pub row_good : good_row (row_count l) (row_count l) (row_in l (row_bytes * k)) ≡ true
  row_good = rw row_held (names_any k (row_count l) (get_or (image_of l).rows k never) (omega arith) (good_row_lem l (passed_good l h) k i).names)

  -- its kind is the one that is read, so that no other stands in for it
  pub row_read : (r : Result RowKind NoRowKind) (other : RowKind) → ReadsKind (get_or l (row_bytes * k + 2) 0) r
      → row_from (fields_in (result_unwrap_or r other) l (row_bytes * k)) ≡ row_in l (row_bytes * k)
  row_read (Ok j) other e = rw e refl
  row_read (Err _) other e = absurd (false≢true (rw (no_kind l (row_bytes * k) e) at row_good))

-- ---- the end record of a good image, which is its last

module _ (l : List ℕ) (h : image_test l ≡ Passed) where
  pub end_fits : row_bytes ≤ length l
  end_fits = let g = passed_good l h in omega arith

  end_at : length l - row_bytes ≡ row_bytes * row_count l
  end_at = let g = passed_good l h in omega arith

  pub end_held : end_in l (length l - row_bytes) ≡ record { sat = (image_of l).S; one = (image_of l).V1; two = (image_of l).V2 }
  unfolding image_of
  end_held = rw end_at

-- its fields, written one after the other
pub end_written : (l : List ℕ) (i sat one two : ℕ)
    → sets l i (end_record sat one two) ≡ sets (sets (sets (sets l i end_mark) (i + 2) (bytes 2 sat)) (i + 4) (bytes 2 one)) (i + 6) (bytes 2 two)
end_written l i sat one two = simp (sets-append, length-bytes, add_assoc)

-- ---- refusal 9

-- no test of this crate gives another fault
abbrev pub image_faults : List Fault
image_faults = BadImage ∷ []

pub image_only : (l : List ℕ) → only_for image_faults (image_test l) ≡ true
unfolding image_test
image_only l =
    let n = row_count l in
    let bad = first_failing (good_row_at l n) 0 n in
    let rows = require (eqb bad n) BadImage bad in
    let end = require (good_end l n) BadImage n in
    only_first image_faults (require (good_image_length l) BadImage 0) (first_of rows end) (only_require image_faults BadImage refl (good_image_length l) 0)
    (only_first image_faults rows end (only_require image_faults BadImage refl (eqb bad n) bad) (only_require image_faults BadImage refl (good_end l n) n))
