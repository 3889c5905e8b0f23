-- Numbers and the bytes that spell them, low byte first, at any width. Document 01, "Records".
use Prim.Native.Nat.{ℕ, zero, suc, ◌+◌, ◌*◌, ◌/◌, ◌%◌, ◌^◌, ◌≤◌, ◌<◌}
use native.Mathlib.Nat.{add-zero, zero-add, add-suc, suc-add, add_comm, add_assoc, mul_comm, mul-add, mul_assoc, one-mul, pow-zero, pow-suc, pow-succ', one-le-pow, mod-one, div-one, mod-lt, mod-eq_of_lt, add-mul-mod_self_left, add-mul-div_left, div-eq_of_lt, div-div-eq-div-mul, lt_of_lt_of_le, pow-le-pow_right, min-le_left}
use native.Mathlib.Omega.{arith}
use mathlib.Core.Path.{◌≡◌, refl, sym, ap, ◌∙◌}
use mathlib.Core.List.{List, [], ◌∷◌, ◌++◌}
use lib.Arith.{mod-mul, digits_lt}
use lib.Dec.{lit<}
use lib.ListN.{length, take, drop, get_or, length-take, length-drop}
use lib.Seq.{length-take-le, take-nil, get_or-drop, drop-drop}
use Rattle.records.specs.Fields.{value, bytes, field}
use Rattle.records.specs.Holding.{AllBelow, AllBytes}

-- ---- lists of bytes

pub all_below_nil : {m : ℕ} → 0 < m → AllBelow m []
all_below_nil h = record { below = λ i. h }

pub all_below_cons : {m b : ℕ} {l : List ℕ} → b < m → AllBelow m l → AllBelow m (b ∷ l)
all_below_cons {m} {b} {l} h a = record { below = at }
  where
    at : (i : ℕ) → get_or (b ∷ l) i 0 < m
    at zero = h
    at (suc i) = a.below i

pub all_bytes_tail : {b : ℕ} {l : List ℕ} → AllBytes (b ∷ l) → AllBytes l
all_bytes_tail a = record { below = λ i. a.below (suc i) }

pub all_bytes_take : (n : ℕ) (l : List ℕ) → AllBytes l → AllBytes (take n l)
all_bytes_take zero l a = all_below_nil (lit< tt)
all_bytes_take (suc n) [] a = all_below_nil (lit< tt)
all_bytes_take (suc n) (b ∷ l) a = all_below_cons (a.below 0) (all_bytes_take n l (all_bytes_tail a))

pub all_bytes_drop : (n : ℕ) (l : List ℕ) → AllBytes l → AllBytes (drop n l)
all_bytes_drop n l a = record { below = λ i. rw get_or-drop (a.below (n + i)) }

-- ---- the bytes of a number

pub length-bytes : (w n : ℕ) → length (bytes w n) ≡ w
unfolding bytes
length-bytes zero n = refl
length-bytes (suc w) n = ap suc (length-bytes w (n / 256))

pub all_bytes_bytes : (w n : ℕ) → AllBytes (bytes w n)
unfolding bytes
all_bytes_bytes zero n = all_below_nil (lit< tt)
all_bytes_bytes (suc w) n = all_below_cons (mod-lt n (lit< tt)) (all_bytes_bytes w (n / 256))

-- a field of v + w bytes is one of v bytes and then one of w
pub bytes-add : (v w n : ℕ) → bytes (v + w) n ≡ bytes v n ++ bytes w (n / 256 ^ v)
unfolding bytes
bytes-add zero w n = simp (zero-add, pow-zero, div-one)
bytes-add (suc v) w n = simp (suc-add, bytes-add v w, div-div-eq-div-mul, pow-succ')

-- ---- the number that bytes spell

pub value_lt : (bs : List ℕ) → AllBytes bs → value bs < 256 ^ length bs
unfolding value
value_lt [] a = lit< tt
value_lt (b ∷ bs) a =
    rw (pow-suc, add_comm, mul_comm 256 (value bs)) (digits_lt (value_lt bs (all_bytes_tail a)) (a.below 0))

pub value_bytes : (w n : ℕ) → value (bytes w n) ≡ n % 256 ^ w
unfolding value bytes
value_bytes zero n = sym (mod-one n)
value_bytes (suc w) n =
    let e : n % (256 ^ w * 256) ≡ n / 256 % 256 ^ w * 256 + n % 256 = mod-mul n (one-le-pow w 256 (lit< tt)) (lit< tt) in
    rw (value_bytes w (n / 256), pow-suc, e) (omega arith)

pub value_bytes_lt : (w : ℕ) {n : ℕ} → n < 256 ^ w → value (bytes w n) ≡ n
value_bytes_lt w {n} h = value_bytes w n ∙ mod-eq_of_lt h

pub bytes_value : (bs : List ℕ) → AllBytes bs → bytes (length bs) (value bs) ≡ bs
unfolding value bytes
bytes_value [] a = refl
bytes_value (b ∷ bs) a =
    let h : b < 256 = a.below 0 in
    let p : 0 < 256 = lit< tt in
    rw (add-mul-mod_self_left, mod-eq_of_lt h, add-mul-div_left, div-eq_of_lt h, zero-add, bytes_value bs (all_bytes_tail a))

-- a number's bytes beyond the width change nothing
pub bytes-mod : (w n : ℕ) → bytes w (n % 256 ^ w) ≡ bytes w n
bytes-mod w n =
    rw (← value_bytes w n) (rw length-bytes at (bytes_value (bytes w n) (all_bytes_bytes w n)))

-- ---- the field at a place

pub field-zero : (l : List ℕ) (at : ℕ) → field l at 0 ≡ 0
unfolding field value
field-zero l at = refl

pub field-suc : (l : List ℕ) (at w : ℕ) → field l at (suc w) ≡ get_or l at 0 + 256 * field l (suc at) w
unfolding field value
field-suc [] zero w = simp take-nil
field-suc [] (suc at) w = simp take-nil
field-suc (b ∷ l) zero w = refl
field-suc (b ∷ l) (suc at) w = field-suc l at w

pub field-add : (l : List ℕ) (at v w : ℕ) → field l at (v + w) ≡ field l at v + 256 ^ v * field l (at + v) w
field-add l at zero w = simp (zero-add, add-zero, one-mul, field-zero)
field-add l at (suc v) w =
    simp (suc-add, field-suc l at, field-add l (suc at) v w, mul-add, pow-succ', mul_assoc, add_assoc, add-suc)

-- a field in the bytes from a place on
pub field-drop : (l : List ℕ) (at i w : ℕ) → field l (at + i) w ≡ field (drop at l) i w
unfolding field
field-drop l at i w = rw drop-drop

pub field_lt : (l : List ℕ) (at w : ℕ) → AllBytes l → field l at w < 256 ^ w
unfolding field
field_lt l at w a =
    let h : length (take w (drop at l)) ≤ w = rw length-take (min-le_left w (length (drop at l))) in
    lt_of_lt_of_le (value_lt (take w (drop at l)) (all_bytes_take w (drop at l) (all_bytes_drop at l a))) (pow-le-pow_right (lit< tt) h)

pub bytes-field : (l : List ℕ) (at w : ℕ) → AllBytes l → at + w ≤ length l → bytes w (field l at w) ≡ take w (drop at l)
unfolding field
bytes-field l at w a h =
    let e : length (take w (drop at l)) ≡ w = length-take-le w (drop at l) (simp length-drop (omega arith)) in
    rw e at (bytes_value (take w (drop at l)) (all_bytes_take w (drop at l) (all_bytes_drop at l a)))
