-- The rows of an image and their bytes. Document 01, "Image and row machine".
use Prim.Native.Nat.{ℕ, zero, suc, ◌+◌, ◌^◌, ◌≤◌, ◌<◌}
use native.Mathlib.Nat.{add-zero, add_assoc}
use native.Mathlib.Numerals.{add-one}
use native.Mathlib.Omega.{arith}
use mathlib.Core.Path.{◌≡◌, refl, sym, ◌∙◌}
use mathlib.Core.Bool.{Bool, true, false, ◌&&◌, cond, and-true, and-false, and-eq-true_iff}
use mathlib.Core.List.{List, ◌∷◌, ◌++◌}
use mathlib.Core.Option.{Option, none, some}
use lib.Dec.{eqb, ltb, leb, lit<}
use lib.ListN.{length, take, drop, get_or, set}
use lib.Seq.{sets, get_or-drop, drop-drop, drop_at, drop-cons, take-add}
use borrow.Author.Tests.{ne_eqb, lt-ltb, le-leb, lt-leb, eqb-true, ltb-true}
use Rattle.records.specs.Fields.{bytes, field}
use Rattle.records.specs.Holding.{AllBytes}
use Rattle.records.specs.Marks.{row_mark, marked}
use Rattle.records.proofs.Fields.{length-bytes, value_bytes_lt, bytes-field}
use Rattle.records.proofs.Marks.{of_marked}
use Rattle.records.proofs.Written.{sets-append}
use Rattle.periods.specs.Limits.{actions}
use Rattle.periods.specs.declared.Party.TheVariants.{One as party1, Two as party2}
use Rattle.periods.specs.Periods.{party_of}
use Rattle.layout.specs.Limits.{row_bytes}
use Rattle.layout.specs.declared.RowKind.{RowKind}
use Rattle.layout.specs.declared.RowKind.TheVariants.{Never, Initial, Attempt, Not, And, Or, Previous}
use Rattle.layout.specs.declared.RowFields.{RowFields}
use Rattle.layout.specs.Fields.{kind_number, row_from}
use Rattle.layout.specs.Rows.{Row, never, initial, attempt, negation, conjunction, disjunction, previous, row_of, row_in, names_rows, good_row, attempt_of, kind, field_x, field_y, Fits, encode, decode, row_record}

-- ---- kinds above the last

other_kind : (j x y : ℕ) → kind_number Previous < j → row_of j x y ≡ none
unfolding row_of
other_kind j x y h =
    rw (ne_eqb j 0 (λ e. omega arith), ne_eqb j 1 (λ e. omega arith), ne_eqb j 2 (λ e. omega arith), ne_eqb j 3 (λ e. omega arith), ne_eqb j 4 (λ e. omega arith), ne_eqb j 5 (λ e. omega arith), ne_eqb j 6 (λ e. omega arith))

-- ---- a good row, by its kind

module _ (k n : ℕ) where
  good_cond : (t : Bool) (r : Row) → good_row k n (cond t (some r) none) ≡ (t && names_rows k n r)
  good_cond true r = refl
  good_cond false r = refl

  good_attempt : (x y : ℕ) → good_row k n (attempt_of (party_of x) y) ≡ (leb 1 x && leb x 2 && ltb y actions)
  good_attempt zero y = refl
  good_attempt (suc zero) y = good_cond (ltb y actions) (attempt party1 y) ∙ and-true (ltb y actions)
  good_attempt (suc (suc zero)) y = good_cond (ltb y actions) (attempt party2 y) ∙ and-true (ltb y actions)
  good_attempt (suc (suc (suc x))) y =
      let x' : ℕ = suc (suc (suc x)) in
      rw (ne_eqb x' 1 (λ e. omega arith), ne_eqb x' 2 (λ e. omega arith), le-leb 1 x' (omega arith), lt-leb x' 2 (omega arith))

  abbrev pub good_fields : RowKind → (x y : ℕ) → Bool
  good_fields Never x y = eqb x 0 && eqb y 0
  good_fields Initial x y = eqb x 0 && eqb y 0
  good_fields Attempt x y = leb 1 x && leb x 2 && ltb y actions
  good_fields Not x y = eqb y 0 && ltb x k
  good_fields And x y = ltb x k && ltb y k
  good_fields Or x y = ltb x k && ltb y k
  good_fields Previous x y = eqb y 0 && ltb x n

  good_by_kind_lem : (j : RowKind) (x y : ℕ) → good_row k n (row_of (kind_number j) x y) ≡ good_fields j x y
  unfolding row_of
  good_by_kind_lem Never x y = good_cond (eqb x 0 && eqb y 0) never ∙ and-true (eqb x 0 && eqb y 0)
  good_by_kind_lem Initial x y = good_cond (eqb x 0 && eqb y 0) initial ∙ and-true (eqb x 0 && eqb y 0)
  good_by_kind_lem Attempt x y = good_attempt x y
  good_by_kind_lem Not x y = good_cond (eqb y 0) (negation x)
  good_by_kind_lem And x y = refl
  good_by_kind_lem Or x y = refl
  good_by_kind_lem Previous x y = good_cond (eqb y 0) (previous x)

  pub good_by_kind : (r : RowFields) → good_row k n (row_from r) ≡ good_fields r.kind r.x r.y
  good_by_kind r = good_by_kind_lem r.kind r.x r.y

-- ---- what is read as a row's kind and fields

-- a mark or a zero byte that is wrong
pub not_marked : (l : List ℕ) (at : ℕ) → marked l at row_mark ≡ false → decode l at ≡ none
unfolding decode
not_marked l at e = rw e

pub no_zero_byte : (l : List ℕ) (at : ℕ) → ¬ (get_or l (at + 3) 0 ≡ 0) → decode l at ≡ none
unfolding decode
no_zero_byte l at h = rw (ne_eqb _ _ h, and-false)

-- a byte that is no kind's
pub no_kind : (l : List ℕ) (at : ℕ) → kind_number Previous < get_or l (at + 2) 0 → row_in l at ≡ none
no_kind l at h = other_kind (get_or l (at + 2) 0) (field l (at + 4) 2) (field l (at + 6) 2) h

-- the rest goes by the kind and the fields
pub held_row : (l : List ℕ) (at : ℕ) → marked l at row_mark ≡ true → get_or l (at + 3) 0 ≡ 0 → decode l at ≡ row_in l at
unfolding decode
held_row l at m z = rw (m, z)

-- ---- the rows that a row names

pub both_below : (n x y : ℕ) → (ltb x n && ltb y n) ≡ true → (x < n) × (y < n)
both_below n x y h =
    let b = (and-eq-true_iff (ltb x n) (ltb y n)).0 h in
    (ltb-true x n b.0, ltb-true y n b.1)

pub names_any : (k n : ℕ) (r : Row) → k ≤ n → names_rows k n r ≡ true → names_rows n n r ≡ true
names_any k n never h e = refl
names_any k n initial h e = refl
names_any k n (attempt p a) h e = refl
names_any k n (negation x) h e = let i : x < k = ltb-true x k e in lt-ltb x n (omega arith)
names_any k n (conjunction x y) h e = let b = both_below k x y e in rw (lt-ltb x n (omega arith)) (lt-ltb y n (omega arith))
names_any k n (disjunction x y) h e = let b = both_below k x y e in rw (lt-ltb x n (omega arith)) (lt-ltb y n (omega arith))
names_any k n (previous x) h e = e

-- ---- the row of a kind and two fields

pub record HasFields (k x y : ℕ) (r : Row) : Type 0 where
  pub is_kind : k ≡ kind r
  pub is_x : x ≡ field_x r
  pub is_y : y ≡ field_y r

pub cond_some : (t : Bool) (o : Option Row) (r : Row) → cond t o none ≡ some r → (t ≡ true) × (o ≡ some r)
cond_some true o r e = (refl, e)
cond_some false o r e = let z : ◌≡◌ {A = ℕ} 0 1 = cc in absurd (omega arith)

of_some : {k x y : ℕ} {a r : Row} → HasFields k x y a → some a ≡ some r → HasFields k x y r
of_some {a = a} {r = r} h e = let i : a ≡ r = cc in rw i at h

none_some : {k x y : ℕ} {r : Row} → none ≡ some r → HasFields k x y r
none_some e = let z : ◌≡◌ {A = ℕ} 0 1 = cc in absurd (omega arith)

both_zero : (x y : ℕ) → (eqb x 0 && eqb y 0) ≡ true → (x ≡ 0) × (y ≡ 0)
both_zero x y e =
    let w = (and-eq-true_iff (eqb x 0) (eqb y 0)).0 e in
    (eqb-true x 0 w.0, eqb-true y 0 w.1)

attempt_some : (x y : ℕ) (r : Row) → attempt_of (party_of x) y ≡ some r → HasFields 2 x y r
attempt_some zero y r e = none_some e
attempt_some (suc zero) y r e =
    of_some record { is_kind = refl; is_x = refl; is_y = refl } (cond_some (ltb y actions) (some (attempt party1 y)) r e).1
attempt_some (suc (suc zero)) y r e =
    of_some record { is_kind = refl; is_x = refl; is_y = refl } (cond_some (ltb y actions) (some (attempt party2 y)) r e).1
attempt_some (suc (suc (suc x))) y r e =
    let x' : ℕ = suc (suc (suc x)) in
    none_some (rw (ne_eqb x' 1 (λ e. omega arith), ne_eqb x' 2 (λ e. omega arith)) at e)

pub row_of_some : (k x y : ℕ) (r : Row) → row_of k x y ≡ some r → HasFields k x y r
unfolding row_of
row_of_some zero x y r e =
    let w = cond_some (eqb x 0 && eqb y 0) (some never) r e in
    let z = both_zero x y w.0 in
    of_some record { is_kind = refl; is_x = z.0; is_y = z.1 } w.1
row_of_some (suc zero) x y r e =
    let w = cond_some (eqb x 0 && eqb y 0) (some initial) r e in
    let z = both_zero x y w.0 in
    of_some record { is_kind = refl; is_x = z.0; is_y = z.1 } w.1
row_of_some (suc (suc zero)) x y r e = attempt_some x y r e
row_of_some (suc (suc (suc zero))) x y r e =
    let w = cond_some (eqb y 0) (some (negation x)) r e in
    of_some record { is_kind = refl; is_x = refl; is_y = eqb-true y 0 w.0 } w.1
row_of_some (suc (suc (suc (suc zero)))) x y r e = of_some {a = conjunction x y} record { is_kind = refl; is_x = refl; is_y = refl } e
row_of_some (suc (suc (suc (suc (suc zero))))) x y r e = of_some {a = disjunction x y} record { is_kind = refl; is_x = refl; is_y = refl } e
row_of_some (suc (suc (suc (suc (suc (suc zero)))))) x y r e =
    let w = cond_some (eqb y 0) (some (previous x)) r e in
    of_some record { is_kind = refl; is_x = refl; is_y = eqb-true y 0 w.0 } w.1
row_of_some (suc (suc (suc (suc (suc (suc (suc k))))))) x y r e =
    none_some (sym (other_kind (suc (suc (suc (suc (suc (suc (suc k))))))) x y (omega arith)) ∙ e)

pub row_of_fields : (r : Row) → Fits r → row_of (kind r) (field_x r) (field_y r) ≡ some r
unfolding row_of
row_of_fields never f = refl
row_of_fields initial f = refl
row_of_fields (attempt party1 a) f = rw (lt-ltb a actions f)
row_of_fields (attempt party2 a) f = rw (lt-ltb a actions f)
row_of_fields (negation x) f = refl
row_of_fields (conjunction x y) f = refl
row_of_fields (disjunction x y) f = refl
row_of_fields (previous x) f = refl

-- ---- a row's bytes

fits_x : (r : Row) → Fits r → field_x r < 256 ^ 2
fits_x never f = lit< tt
fits_x initial f = lit< tt
fits_x (attempt party1 a) f = lit< tt
fits_x (attempt party2 a) f = lit< tt
fits_x (negation x) f = f
fits_x (conjunction x y) f = f.0
fits_x (disjunction x y) f = f.0
fits_x (previous x) f = f

fits_y : (r : Row) → Fits r → field_y r < 256 ^ 2
fits_y never f = lit< tt
fits_y initial f = lit< tt
fits_y (attempt p a) f = omega arith
fits_y (negation x) f = lit< tt
fits_y (conjunction x y) f = f.1
fits_y (disjunction x y) f = f.1
fits_y (previous x) f = lit< tt

pub length-encode : (r : Row) → length (encode r) ≡ row_bytes
unfolding encode bytes
length-encode r = refl

-- its fields, written one after the other
pub row_written : (l : List ℕ) (i kind x y : ℕ)
    → sets l i (row_record kind x y) ≡ sets (sets (set (set (sets l i row_mark) (i + 2) kind) (i + 3) 0) (i + 4) (bytes 2 x)) (i + 6) (bytes 2 y)
row_written l i kind x y =
    let three : i + 3 ≡ suc (i + 2) = omega arith in
    let four : i + 4 ≡ suc (suc (i + 2)) = omega arith in
    let six : i + 6 ≡ suc (suc (i + 2)) + 2 = omega arith in
    rw (three, four, six) (simp (sets-append, length-bytes))

-- what is decoded at a place stands in the bytes from there on
decode-drop : (l : List ℕ) (at : ℕ) → decode l at ≡ decode (drop at l) 0
unfolding decode marked field
decode-drop l at = simp (get_or-drop, drop-drop, add-zero)

-- ---- what is encoded is decoded

decode_here : (r : Row) (rest : List ℕ) → Fits r → decode (encode r ++ rest) 0 ≡ some r
unfolding decode encode marked field bytes
decode_here r rest f = rw (value_bytes_lt 2 (fits_x r f), value_bytes_lt 2 (fits_y r f)) (row_of_fields r f)

pub decode-encode : (front : List ℕ) (r : Row) (rest : List ℕ) (at : ℕ) → Fits r → length front ≡ at
    → decode (front ++ (encode r ++ rest)) at ≡ some r
decode-encode front r rest at f e = rw (decode-drop, drop_at front (encode r ++ rest) at e) (decode_here r rest f)

-- ---- what is decoded was encoded

next : (l : List ℕ) (i : ℕ) → i < length l → drop i l ≡ get_or l i 0 ∷ drop (i + 1) l
next l i h = rw add-one (drop-cons l i 0 h)

row_bytes_lem : (l : List ℕ) (at : ℕ) → at + row_bytes ≤ length l
    → take row_bytes (drop at l) ≡ take 2 (drop at l) ++ (get_or l (at + 2) 0 ∷ get_or l (at + 3) 0 ∷ (take 2 (drop (at + 4) l) ++ take 2 (drop (at + 6) l)))
row_bytes_lem l at h =
    rw (take-add 2 6 (drop at l), drop-drop 2 at l, next l (at + 2) (omega arith), add_assoc at 2 1, next l (at + 3) (omega arith), add_assoc at 3 1, take-add 2 2 (drop (at + 4) l), drop-drop 2 (at + 4) l, add_assoc at 4 2)

pub encode-decode : (l : List ℕ) (at : ℕ) (r : Row) → AllBytes l → at + row_bytes ≤ length l → decode l at ≡ some r → take row_bytes (drop at l) ≡ encode r
unfolding decode encode
encode-decode l at r a h e =
    let w = cond_some (marked l at row_mark && eqb (get_or l (at + 3) 0) 0) (row_of (get_or l (at + 2) 0) (field l (at + 4) 2) (field l (at + 6) 2)) r e in
    let m = (and-eq-true_iff (marked l at row_mark) (eqb (get_or l (at + 3) 0) 0)).0 w.0 in
    let g = row_of_some (get_or l (at + 2) 0) (field l (at + 4) 2) (field l (at + 6) 2) r w.1 in
    rw (row_bytes_lem l at h, of_marked l at _ _ (omega arith) m.0, g.is_kind, eqb-true (get_or l (at + 3) 0) 0 m.1, ← bytes-field l (at + 4) 2 a (omega arith), ← bytes-field l (at + 6) 2 a (omega arith), g.is_x, g.is_y)
