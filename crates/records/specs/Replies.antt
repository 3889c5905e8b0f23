-- Replies, and what a call leaves. Document 01, "Calls" and "Replies that refuse".
use Rattle.std.specs.Prelude.{ℕ, ◌+◌, cond, List, [], ◌∷◌, ◌++◌, map, ◌≡◌, ltb, length, Ok, Err}
use Rattle.std.proofs.lemmas.List.Edits.{sets}
use Rattle.records.specs.Fields.{bytes, field}
use Rattle.records.specs.declared.Head.{Head}
use Rattle.records.specs.Refusals.{Test, Passed, number_of, place_of}

-- ---- replies

-- a field: so many bytes, and the number that they hold
pub record Field : Type 0 where
  pub width : ℕ
  pub value : ℕ

abbrev pub four : ℕ → Field
four n = record { width = 4; value = n }

abbrev pub eight : ℕ → Field
eight n = record { width = 8; value = n }

-- the bytes of fields, one after the other, and how many they are
unfoldable pub fields_bytes : List Field → List ℕ
fields_bytes [] = []
fields_bytes (f ∷ fs) = bytes f.width f.value ++ fields_bytes fs

abbrev pub fields_size : List Field → ℕ
fields_size [] = 0
fields_size (f ∷ fs) = f.width + fields_size fs

-- what a call answers beside number and place: the field between the two, and those behind them
pub record Answer : Type 0 where
  pub own : ℕ
  pub others : List Field

-- the first of these alone
abbrev pub alone : ℕ → Answer
alone n = record { own = n; others = [] }

-- and with words of four bytes behind the place
abbrev pub words : ℕ → List ℕ → Answer
words n ws = record { own = n; others = map four ws }

abbrev pub reply_fields : Test → Answer → List Field
reply_fields t a = four (number_of t) ∷ four a.own ∷ eight (place_of t) ∷ a.others

-- a reply's bytes
abbrev pub reply_of : Test → Answer → List ℕ
reply_of t a = fields_bytes (reply_fields t a)

-- how many they are, whatever the tests find
abbrev pub reply_bytes : Answer → ℕ
reply_bytes a = fields_size (reply_fields Passed a)

-- what a reply's bytes hold in its first three fields, and how many bytes these have
abbrev pub head_of : List ℕ → Head
head_of reply = record { number = field reply 0 4; own = field reply 4 4; place = field reply 8 8 }

abbrev pub head_size : ℕ
head_size = reply_bytes (alone 0)

-- "every other field is 0"
abbrev pub zeroed : Answer → Answer
zeroed a = record { own = 0; others = map (λ (f : Field). record { width = f.width; value = 0 }) a.others }

-- ---- what a call leaves

-- its result, the bytes of the buffers that it may write, and those of the reply area
pub record After (Buffers : Type 0) : Type 0 where
  pub result : ℕ
  pub buffers : Buffers
  pub reply : List ℕ

-- a call's result and the later bytes are those
pub record Gives {Buffers : Type 0} (after : After Buffers) (result : ℕ) (buffers : Buffers) (reply : List ℕ) : Type 0 where
  pub result_is : result ≡ after.result
  pub buffers_are : buffers ≡ after.buffers
  pub reply_is : reply ≡ after.reply

-- "If that area is too short for the reply, the call writes nothing anywhere"
abbrev pub unwritten : {Buffers : Type 0} → Buffers → (area : List ℕ) → After Buffers
unwritten buffers area = record { result = 0; buffers = buffers; reply = area }

-- the reply in the area's first bytes, and the buffers that come with it
abbrev pub written : {Buffers : Type 0} → Buffers → (area : List ℕ) → Test → Answer → After Buffers
written buffers area t a = record { result = 1; buffers = buffers; reply = sets area 0 (reply_of t a) }

-- accepted, it answers and leaves the buffers `later`; "A refusal gives its number and a place; every other field is 0 and every lent buffer but
-- the reply's area is unchanged."
abbrev pub answered : {Buffers : Type 0} → Test → Answer → (before later : Buffers) → (area : List ℕ) → After Buffers
answered (Ok u) a before later area = written later area (Ok u) a
answered (Err r) a before later area = written before area (Err r) (zeroed a)

-- the buffers that an answered call leaves
abbrev pub left : {Buffers : Type 0} → Test → (before later : Buffers) → Buffers
left (Ok u) before later = later
left (Err r) before later = before

-- any call: what its tests find, what it answers and leaves where they are passed, and what it was lent
unfoldable pub call : {Buffers : Type 0} → Test → Answer → (before later : Buffers) → (area : List ℕ) → After Buffers
call t a before later area = cond (ltb (length area) (reply_bytes a)) (unwritten before area) (answered t a before later area)
