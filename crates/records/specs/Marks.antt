-- The marks of the records. Document 01, "Records": "Every record starts with a two-byte mark"; the row's and the end record's are those of
-- "Image and row machine". A period record has one of two: the narrow one's is document 01's, the wide one's that of document 02, "Thirty-two actions".
-- A log record's is that of its "Join the two parties' logs".
use Rattle.std.specs.Prelude.{ℕ, ◌+◌, Bool, ◌&&◌, List, [], ◌∷◌, eqb, get_or}

abbrev pub contract_mark : List ℕ
contract_mark = 0x54 ∷ 0x43 ∷ []

abbrev pub narrow_mark : List ℕ
narrow_mark = 0x54 ∷ 0x50 ∷ []

abbrev pub wide_mark : List ℕ
wide_mark = 0x54 ∷ 0x51 ∷ []

abbrev pub log_mark : List ℕ
log_mark = 0x54 ∷ 0x4c ∷ []

abbrev pub row_mark : List ℕ
row_mark = 0x54 ∷ 0x52 ∷ []

abbrev pub end_mark : List ℕ
end_mark = 0x54 ∷ 0x45 ∷ []

-- the record from byte `at` on starts with this mark
unfoldable pub marked : List ℕ → ℕ → List ℕ → Bool
marked l at mark = eqb (get_or l at 0) (get_or mark 0 0) && eqb (get_or l (at + 1) 0) (get_or mark 1 0)
