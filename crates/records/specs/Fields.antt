-- Fields of several bytes. Document 01, "Records": "Two- and four-byte fields have the low byte first."
use Rattle.std.specs.Prelude.{ℕ, zero, suc, ◌+◌, ◌*◌, ◌/◌, ◌%◌, List, [], ◌∷◌, take, drop}

-- the number that bytes spell, low byte first
unfoldable pub value : List ℕ → ℕ
value [] = 0
value (b ∷ bs) = b + 256 * value bs

-- the bytes of a field of the given width that holds a number, low byte first
unfoldable pub bytes : ℕ → ℕ → List ℕ
bytes zero n = []
bytes (suc w) n = n % 256 ∷ bytes w (n / 256)

-- the number in the field of w bytes from byte `at` on
unfoldable pub field : List ℕ → ℕ → ℕ → ℕ
field l at w = value (take w (drop at l))
