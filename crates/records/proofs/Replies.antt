-- The bytes of replies, reading a field back, and the three ways out of a call. Document 01, "Calls" and "Replies that refuse".
use Prim.Native.Nat.{ℕ, ◌+◌, ◌*◌, ◌^◌, ◌≤◌, ◌<◌}
use native.Mathlib.Numerals.{add-one}
use native.Mathlib.Nat.{zero-add, add_assoc, mod-eq_of_lt}
use native.Mathlib.Omega.{arith}
use mathlib.Core.Bool.{Bool, true, false, cond}
use mathlib.Core.Path.{◌≡◌, refl, sym, ap, ◌∙◌}
use mathlib.Core.List.{List, [], ◌∷◌, ◌++◌, map, map-append, append_assoc, append-nil}
use lib.ListN.{length, take, drop, get_or, length-append}
use lib.Seq.{sets, take-suc, length-take-le}
use borrow.Author.Tests.{lt-ltb, le-ltb}
use lib.Dec.{ltb}
use Rattle.records.specs.Fields.{bytes, field}
use Rattle.std.specs.Prelude.{Ok, Err}
use Rattle.records.specs.Refusals.{Test, Passed, number_of, place_of}
use Rattle.records.specs.Replies.{Field, four, eight, fields_bytes, fields_size, Answer, alone, words, head_size, reply_fields, reply_of, reply_bytes, head_of, zeroed, After, Gives, unwritten, written, answered, call}
use Rattle.records.proofs.Fields.{length-bytes}
use Rattle.records.proofs.Refusals.{number_small}
use Rattle.records.proofs.Written.{sets-append, drop_after, field_in, field_spelled}

-- ---- the bytes of fields

pub length_fields : (fs : List Field) → length (fields_bytes fs) ≡ fields_size fs
unfolding fields_bytes
length_fields [] = refl
length_fields (f ∷ fs) = rw (length-append, length-bytes, length_fields fs)

pub fields_append : (fs gs : List Field) → fields_bytes (fs ++ gs) ≡ fields_bytes fs ++ fields_bytes gs
unfolding fields_bytes
fields_append [] gs = refl
fields_append (f ∷ fs) gs = rw (fields_append fs gs, append_assoc)

pub size-append : (fs gs : List Field) → fields_size (fs ++ gs) ≡ fields_size fs + fields_size gs
size-append [] gs = rw zero-add
size-append (f ∷ fs) gs = rw (size-append fs gs, add_assoc)

-- fields written behind others
pub fields_written : (area : List ℕ) (fs gs : List Field) → sets area 0 (fields_bytes (fs ++ gs)) ≡ sets (sets area 0 (fields_bytes fs)) (fields_size fs) (fields_bytes gs)
fields_written area fs gs = rw (fields_append fs gs, sets-append, length_fields fs, zero-add)

-- a reply's first three fields
pub head_written : (area : List ℕ) (t : Test) (own : ℕ)
    → sets area 0 (reply_of t (alone own)) ≡ sets (sets (sets area 0 (bytes 4 (number_of t))) 4 (bytes 4 own)) 8 (bytes 8 (place_of t))
unfolding fields_bytes
head_written area t own = simp (append-nil, sets-append, length-bytes)

words_size : (ws : List ℕ) → fields_size (map four ws) ≡ 4 * length ws
words_size [] = refl
words_size (w ∷ ws) = rw (words_size ws) (omega arith)

-- one field's bytes
field_alone : (f : Field) → fields_bytes (f ∷ []) ≡ bytes f.width f.value
unfolding fields_bytes
field_alone f = append-nil (bytes f.width f.value)

-- one more word behind the place
pub word_written : (area : List ℕ) (t : Test) (own : ℕ) (ws : List ℕ) (k : ℕ) → k < length ws
    → sets (sets area 0 (reply_of t (words own (take k ws)))) (head_size + 4 * k) (bytes 4 (get_or ws k 0)) ≡ sets area 0 (reply_of t (words own (take (k + 1) ws)))
word_written area t own ws k h =
    let fs = reply_fields t (words own (take k ws)) in
    let w = four (get_or ws k 0) in
    let size : fields_size fs ≡ head_size + 4 * k = rw (words_size, length-take-le k ws (omega arith)) (omega arith) in
    let more : reply_fields t (words own (take (k + 1) ws)) ≡ fs ++ (w ∷ []) = rw (add-one, take-suc ws k 0 h, map-append) refl in
    sym (ap (λ (fs : List Field). sets area 0 (fields_bytes fs)) more
    ∙ fields_written area fs (w ∷ [])
    ∙ ap (λ (n : ℕ). sets (sets area 0 (fields_bytes fs)) n (fields_bytes (w ∷ []))) size
    ∙ ap (λ (bs : List ℕ). sets (sets area 0 (fields_bytes fs)) (head_size + 4 * k) bs) (field_alone w))

-- the field behind some fields, with any others after it, is read back
pub field_back : (before : List Field) (f : Field) (others : List Field) (area : List ℕ) → fields_size (before ++ (f ∷ others)) ≤ length area → f.value < 256 ^ f.width
    → field (sets area 0 (fields_bytes (before ++ (f ∷ others)))) (fields_size before) f.width ≡ f.value
unfolding fields_bytes
field_back before f others area h small =
    let fs = before ++ (f ∷ others) in
    let e : fields_bytes fs ≡ fields_bytes before ++ (bytes f.width f.value ++ fields_bytes others) = fields_append before (f ∷ others) in
    let fits : length (fields_bytes fs) ≤ length area = rw (length_fields fs) h in
    let within : fields_size before + f.width ≤ length (fields_bytes fs) = rw (length_fields fs, size-append before (f ∷ others)) (omega arith) in
    rw zero-add at (field_in area 0 (fields_bytes fs) (fields_size before) f.width (rw zero-add fits) within)
    ∙ rw e (field_spelled (fields_bytes before) f.width f.value (fields_bytes others) (fields_size before) (length_fields before))
    ∙ mod-eq_of_lt small

-- a reply's first three fields are read back
pub head_back : (area : List ℕ) (t : Test) (a : Answer) → reply_bytes a ≤ length area → a.own < 256 ^ 4 → place_of t < 256 ^ 8
    → head_of (sets area 0 (reply_of t a)) ≡ record { number = number_of t; own = a.own; place = place_of t }
head_back area t a h o p =
    let n = four (number_of t) in
    let v = four a.own in
    let k = eight (place_of t) in
    rw (
      field_back [] n (v ∷ k ∷ a.others) area h (number_small t),
      field_back (n ∷ []) v (k ∷ a.others) area h o,
      field_back (n ∷ v ∷ []) k a.others area h p,
    )

-- the bytes past a reply are as they were
pub after_fields : (fs : List Field) (area : List ℕ) → drop (fields_size fs) (sets area 0 (fields_bytes fs)) ≡ drop (fields_size fs) area
after_fields fs area = drop_after area 0 (fields_bytes fs) (fields_size fs) (rw length_fields (omega arith))

-- ---- what a call leaves

module _ {Buffers : Type 0} (t : Test) (a : Answer) (before later : Buffers) (area : List ℕ) where
  pub call_no_room : length area < reply_bytes a → call t a before later area ≡ unwritten before area
  unfolding call
  call_no_room h = rw (lt-ltb (length area) (reply_bytes a) h)

  pub call-passed : reply_bytes a ≤ length area → t ≡ Passed → call t a before later area ≡ written later area Passed a
  unfolding call
  call-passed h e = rw (le-ltb (length area) (reply_bytes a) h, e)

  refused : (t : Test) → ¬ (t ≡ Passed) → answered t a before later area ≡ written before area t (zeroed a)
  refused (Ok _) h = absurd (h refl)
  refused (Err r) h = refl

  pub call_refused : reply_bytes a ≤ length area → ¬ (t ≡ Passed) → call t a before later area ≡ written before area t (zeroed a)
  unfolding call
  call_refused h e = rw (le-ltb (length area) (reply_bytes a) h) (refused t e)

  -- with room for its reply the result is 1, refused or not
  pub call_result : reply_bytes a ≤ length area → (call t a before later area).result ≡ 1
  unfolding call
  call_result h = rw (le-ltb (length area) (reply_bytes a) h) (of t)
    where
      of : (t : Test) → (answered t a before later area).result ≡ 1
      of (Ok _) = refl
      of (Err r) = refl

  -- the buffers that it leaves are those before or those later, so what holds of both holds of them
  pub call_buffers : (P : Buffers → Type 0) → P before → P later → P (call t a before later area).buffers
  unfolding call
  call_buffers P b l = go (ltb (length area) (reply_bytes a)) t
    where
      go : (short : Bool) (u : Test) → P (cond short (unwritten before area) (answered u a before later area)).buffers
      go true u = b
      go false (Ok _) = l
      go false (Err r) = b

  -- the three ways out of a call
  pub gives_no_room : length area < reply_bytes a → Gives (call t a before later area) 0 before area
  gives_no_room h = rw (call_no_room h) record { result_is = refl; buffers_are = refl; reply_is = refl }

  pub gives_refused : reply_bytes a ≤ length area → ¬ (t ≡ Passed) → (r : List ℕ) → r ≡ sets area 0 (reply_of t (zeroed a))
      → Gives (call t a before later area) 1 before r
  gives_refused h e r j = rw (call_refused h e) record { result_is = refl; buffers_are = refl; reply_is = j }

  pub gives_passed : reply_bytes a ≤ length area → t ≡ Passed → (l : Buffers) (r : List ℕ) → l ≡ later → r ≡ sets area 0 (reply_of Passed a)
      → Gives (call t a before later area) 1 l r
  gives_passed h e l r i j = rw (call-passed h e) record { result_is = refl; buffers_are = i; reply_is = j }

-- result and reply don't go by the later buffers
pub call_apart : {Buffers : Type 0} (t : Test) (a : Answer) (before later other : Buffers) (area : List ℕ)
    → ((call t a before later area).result ≡ (call t a before other area).result) × ((call t a before later area).reply ≡ (call t a before other area).reply)
unfolding call
call_apart {Buffers} t a before later other area = go (ltb (length area) (reply_bytes a)) t
  where
    left : Bool → Test → After Buffers
    left short u = cond short (unwritten before area) (answered u a before later area)

    right : Bool → Test → After Buffers
    right short u = cond short (unwritten before area) (answered u a before other area)

    go : (short : Bool) (u : Test) → ((left short u).result ≡ (right short u).result) × ((left short u).reply ≡ (right short u).reply)
    go true u = (refl, refl)
    go false (Ok _) = (refl, refl)
    go false (Err r) = (refl, refl)
