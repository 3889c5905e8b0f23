-- What a run of rows leaves in an image buffer: runs one behind the other are one, in whichever order they were written.
use Prim.Native.Nat.{ℕ, suc, ◌+◌, ◌*◌, ◌<◌}
use native.Mathlib.Omega.{arith}
use mathlib.Core.List.{List, [], ◌∷◌, ◌++◌, map, append_assoc, map-append}
use mathlib.Core.Path.{◌≡◌, refl, sym, ap, ◌∙◌}
use lib.ListN.{length, take, get_or, length-append, length-map}
use lib.Seq.{sets, length-sets, length-take-le, take-suc}
use Rattle.records.specs.Fields.{bytes}
use Rattle.records.proofs.Written.{sets-append, sets_before}
use Rattle.layout.specs.Limits.{row_bytes}
use Rattle.layout.specs.Rows.{Row, row_record, encode}
use Rattle.layout.specs.Fields.{kind_number}
use Rattle.layout.specs.Images.{rows_bytes}
use Rattle.emitter.specs.Rows.{RowNumbers, numbers_of, numbers_bytes, written_rows, Name, NamedRow, row_numbers, named_rows}

-- rows as numbers have the rows' bytes
pub numbers_bytes_lem : (rs : List Row) → numbers_bytes (map numbers_of rs) ≡ rows_bytes rs
unfolding numbers_bytes rows_bytes encode
numbers_bytes_lem [] = refl
numbers_bytes_lem (r ∷ rs) = ap (λ m. encode r ++ m) (numbers_bytes_lem rs)

length_numbers : (rs : List RowNumbers) → length (numbers_bytes rs) ≡ row_bytes * length rs
unfolding numbers_bytes bytes
length_numbers [] = refl
length_numbers (r ∷ rs) = omega (arith, length_numbers rs)

numbers_append : (rs ss : List RowNumbers) → numbers_bytes (rs ++ ss) ≡ numbers_bytes rs ++ numbers_bytes ss
unfolding numbers_bytes
numbers_append [] ss = refl
numbers_append (r ∷ rs) ss =
    let row = row_record r.kind r.x r.y in
    ap (λ m. row ++ m) (numbers_append rs ss) ∙ sym (append_assoc row (numbers_bytes rs) (numbers_bytes ss))

pub length-written : (image : List ℕ) (b : ℕ) (rs : List RowNumbers) → length (written_rows image b rs) ≡ length image
unfolding written_rows
length-written image b rs = length-sets image (row_bytes * b) (numbers_bytes rs)

pub written_none : (image : List ℕ) (b : ℕ) → written_rows image b [] ≡ image
unfolding written_rows numbers_bytes
written_none image b = refl

-- a row is a run
pub sets_row : (image : List ℕ) (b : ℕ) (r : RowNumbers)
    → sets image (row_bytes * b) (row_record r.kind r.x r.y) ≡ written_rows image b (r ∷ [])
unfolding written_rows numbers_bytes bytes
sets_row image b r = refl

-- where the bytes of a run end
ends : (b n : ℕ) (rs : List RowNumbers) → n ≡ b + length rs → row_bytes * n ≡ row_bytes * b + length (numbers_bytes rs)
ends b n rs e = omega (arith, length_numbers rs)

-- a run and then the one behind it
pub written_after : (image : List ℕ) (b n : ℕ) (rs ss : List RowNumbers) → n ≡ b + length rs
    → written_rows (written_rows image b rs) n ss ≡ written_rows image b (rs ++ ss)
unfolding written_rows
written_after image b n rs ss e =
    rw (ends b n rs e, numbers_append rs ss) (sym (sets-append image (row_bytes * b) (numbers_bytes rs) (numbers_bytes ss)))

-- a run and then the one before it
written_before : (image : List ℕ) (b n : ℕ) (rs ss : List RowNumbers) → n ≡ b + length rs
    → written_rows (written_rows image n ss) b rs ≡ written_rows image b (rs ++ ss)
unfolding written_rows
written_before image b n rs ss e =
    rw (ends b n rs e, numbers_append rs ss) (sets_before image (row_bytes * b) (numbers_bytes rs) (numbers_bytes ss))

-- rows written inside, and then those before and behind them
pub written_around : (image : List ℕ) (b m n : ℕ) (hs rs ts : List RowNumbers) → m ≡ b + length hs → n ≡ m + length rs
    → written_rows (written_rows (written_rows image m rs) b hs) n ts ≡ written_rows image b (hs ++ (rs ++ ts))
written_around image b m n hs rs ts e f =
    let g : n ≡ b + length (hs ++ rs) = rw length-append (omega arith) in
    rw (written_before image b m hs rs e, written_after image b n (hs ++ rs) ts g, append_assoc)

-- ---- rows by names

pub length-named : (names : Name → ℕ) (rows : List NamedRow) → length (named_rows names rows) ≡ length rows
unfolding named_rows
length-named names rows = length-map rows (row_numbers names)

-- what is written before the first row, and with one row more, whose x and y are what it names
module _ (names : Name → ℕ) (rows : List NamedRow) (image : List ℕ) (b : ℕ) where
  pub none_named : image ≡ written_rows image b (named_rows names (take 0 rows))
  unfolding named_rows
  none_named = sym (written_none image b)

  named_next : (j : ℕ) (d : NamedRow) → j < length rows
      → named_rows names (take (suc j) rows) ≡ named_rows names (take j rows) ++ (row_numbers names (get_or rows j d) ∷ [])
  unfolding named_rows
  named_next j d h = rw (take-suc rows j d h, map-append) refl

  pub written_next : (now later : List ℕ) (j x y : ℕ) (d : NamedRow) → j < length rows
      → now ≡ written_rows image b (named_rows names (take j rows))
      → x ≡ names (get_or rows j d).1
      → y ≡ names (get_or rows j d).2
      → later ≡ sets now (row_bytes * (b + j)) (row_record (kind_number (get_or rows j d).0) x y)
      → later ≡ written_rows image b (named_rows names (take (suc j) rows))
  written_next now later j x y d h e f g w =
      let rs = named_rows names (take j rows) in
      let r = row_numbers names (get_or rows j d) in
      let n : b + j ≡ b + length rs = rw (length-named names (take j rows), length-take-le j rows (omega arith)) refl in
      w ∙ rw (e, f, g, named_next j d h) (sets_row (written_rows image b rs) (b + j) r ∙ written_after image b (b + j) rs (r ∷ []) n)
