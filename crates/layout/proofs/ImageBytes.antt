-- The bytes of an image are a good one, and are read back as it.
use Prim.Native.Nat.{ℕ, zero, suc, ◌+◌, ◌*◌, ◌≤◌, ◌<◌}
use native.Mathlib.Omega.{arith}
use mathlib.Core.Path.{◌≡◌, refl, ap, ◌∙◌}
use mathlib.Core.Bool.{true}
use mathlib.Core.Option
use mathlib.Core.Option.{Option, some}
use mathlib.Core.List.{List, [], ◌∷◌, ◌++◌, append_assoc}
use lib.ListN.{length, take, drop, get_or, length-append}
use lib.Seq.{length-take-le, drop_at, ext_get_or}
use borrow.Author.Tests.{lt-ltb}
use Rattle.records.specs.Fields.{bytes, field}
use Rattle.records.specs.Marks.{end_mark, marked}
use Rattle.records.proofs.Fields.{value_bytes_lt, field-drop}
use Rattle.records.proofs.Marks.{marked-drop}
use Rattle.layout.specs.Limits.{row_bytes, max_rows}
use Rattle.layout.specs.Rows.{Row, never, Fits, encode, decode, names_rows}
use Rattle.layout.specs.Images.{Image, rows_bytes, end_bytes, image_bytes, row_count, rows_of, image_of, good_row_at, good_end}
use Rattle.layout.specs.Refusals.{image_test}
use Rattle.layout.proofs.Rows.{length-encode, decode-encode}
use Rattle.layout.proofs.Images.{GoodImage, row_count_of, good_passed, length-rows_of, get_or-rows_of}
use Rattle.records.specs.Refusals.{Passed}

-- ---- an image's bytes

pub length-rows_bytes : (rs : List Row) → length (rows_bytes rs) ≡ row_bytes * length rs
unfolding rows_bytes
length-rows_bytes [] = refl
length-rows_bytes (r ∷ rs) = rw (length-append, length-encode, length-rows_bytes rs) (omega arith)

-- the bytes of rows, at one of them
rows_split : (rs : List Row) (rest : List ℕ) (k : ℕ) → k < length rs
    → rows_bytes rs ++ rest ≡ rows_bytes (take k rs) ++ (encode (get_or rs k never) ++ (rows_bytes (drop (suc k) rs) ++ rest))
unfolding rows_bytes
rows_split [] rest k h = absurd (omega arith)
rows_split (r ∷ rs) rest zero h = append_assoc (encode r) (rows_bytes rs) rest
rows_split (r ∷ rs) rest (suc k) h = rw (append_assoc (encode r) (rows_bytes rs) rest, rows_split rs rest k (omega arith), append_assoc (encode r) (rows_bytes (take k rs)))

-- row k among the bytes of rows, with anything after them
pub decode_row : (rs : List Row) (rest : List ℕ) (k : ℕ) → k < length rs → Fits (get_or rs k never)
    → decode (rows_bytes rs ++ rest) (row_bytes * k) ≡ some (get_or rs k never)
decode_row rs rest k h f =
    let front : List ℕ = rows_bytes (take k rs) in
    let e : length front ≡ row_bytes * k = rw (length-rows_bytes, length-take-le k rs (omega arith)) in
    rw (rows_split rs rest k h) (decode-encode front (get_or rs k never) (rows_bytes (drop (suc k) rs) ++ rest) (row_bytes * k) f e)

-- an image that has bytes: 1 to the most rows, whose fields fit and name rows of the image, as the end record does
pub record Writable (m : Image) : Type 0 where
  pub some_rows : 1 ≤ length m.rows
  pub few_rows : length m.rows ≤ max_rows
  pub fits : (k : ℕ) → k < length m.rows → Fits (get_or m.rows k never)
  pub names : (k : ℕ) → k < length m.rows → names_rows k (length m.rows) (get_or m.rows k never) ≡ true
  pub small_S : m.S < length m.rows
  pub small_V1 : m.V1 < length m.rows
  pub small_V2 : m.V2 < length m.rows

pub length-image_bytes : (m : Image) → length (image_bytes m) ≡ row_bytes * (length m.rows + 1)
unfolding image_bytes end_bytes bytes
length-image_bytes m = rw (length-append, length-rows_bytes) (omega arith)

pub row_count-image_bytes : (m : Image) → row_count (image_bytes m) ≡ length m.rows
row_count-image_bytes m = row_count_of (image_bytes m) (length m.rows) (length-image_bytes m)

module _ (m : Image) where
  at_end : drop (row_bytes * length m.rows) (image_bytes m) ≡ end_bytes m
  unfolding image_bytes
  at_end = drop_at (rows_bytes m.rows) (end_bytes m) (row_bytes * length m.rows) (length-rows_bytes m.rows)

  end_mark_lem : marked (image_bytes m) (row_bytes * length m.rows) end_mark ≡ true
  unfolding end_bytes marked
  end_mark_lem = rw (marked-drop, at_end)

  end-field : (i v : ℕ) → field (end_bytes m) i 2 ≡ v → field (image_bytes m) (row_bytes * length m.rows + i) 2 ≡ v
  end-field i v e = field-drop (image_bytes m) (row_bytes * length m.rows) i 2 ∙ rw at_end e

module _ (m : Image) (w : Writable m) where
  end-S : field (image_bytes m) (row_bytes * length m.rows + 2) 2 ≡ m.S
  unfolding end_bytes bytes field
  end-S = end-field m 2 m.S (value_bytes_lt 2 (omega arith))

  end-V1 : field (image_bytes m) (row_bytes * length m.rows + 4) 2 ≡ m.V1
  unfolding end_bytes bytes field
  end-V1 = end-field m 4 m.V1 (value_bytes_lt 2 (omega arith))

  end-V2 : field (image_bytes m) (row_bytes * length m.rows + 6) 2 ≡ m.V2
  unfolding end_bytes bytes field
  end-V2 = end-field m 6 m.V2 (value_bytes_lt 2 (omega arith))

  row_at : (k : ℕ) → k < length m.rows → decode (image_bytes m) (row_bytes * k) ≡ some (get_or m.rows k never)
  unfolding image_bytes
  row_at k h = decode_row m.rows (end_bytes m) k h (w.fits k h)

  good_row_at_lem : (k : ℕ) → k < length m.rows → good_row_at (image_bytes m) (length m.rows) k ≡ true
  unfolding good_row_at
  good_row_at_lem k h = rw (row_at k h) (w.names k h)

  good_end_at : good_end (image_bytes m) (length m.rows) ≡ true
  unfolding good_end
  good_end_at =
      let n : ℕ = length m.rows in
      rw (end_mark_lem m, end-S, end-V1, end-V2, lt-ltb m.S n w.small_S, lt-ltb m.V1 n w.small_V1, lt-ltb m.V2 n w.small_V2)

  pub image_bytes_good : GoodImage (image_bytes m)
  image_bytes_good =
      record {
        count = rw row_count-image_bytes (length-image_bytes m);
        some_rows = rw row_count-image_bytes w.some_rows;
        few_rows = rw row_count-image_bytes w.few_rows;
        each = λ k h. rw row_count-image_bytes (good_row_at_lem k (rw row_count-image_bytes at h));
        ends = rw row_count-image_bytes good_end_at;
      }

  pub image_test-image_bytes : image_test (image_bytes m) ≡ Passed
  image_test-image_bytes = good_passed (image_bytes m) image_bytes_good

  rows_of-image_bytes : rows_of (image_bytes m) (length m.rows) ≡ m.rows
  rows_of-image_bytes =
      let n : ℕ = length m.rows in
      let e : length (rows_of (image_bytes m) n) ≡ n = length-rows_of (image_bytes m) n in
      ext_get_or never (rows_of (image_bytes m) n) m.rows e
      (λ k h. let i : k < n = rw e at h in
      get_or-rows_of (image_bytes m) n k i ∙ ap (λ (o : Option Row). Option.get_or o never) (row_at k i))

  pub image_of-image_bytes : image_of (image_bytes m) ≡ m
  unfolding image_of
  image_of-image_bytes = rw (row_count-image_bytes, rows_of-image_bytes, end-S, end-V1, end-V2)
