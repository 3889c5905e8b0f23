-- What is known of bytes, and of a field that is read of them.
use Rattle.std.specs.Prelude.{ℕ, ◌^◌, ◌<◌, ◌≡◌, List, get_or}
use Rattle.records.specs.Fields.{field}

-- every element is below m
pub record AllBelow (m : ℕ) (l : List ℕ) : Type 0 where
  pub below : (i : ℕ) → get_or l i 0 < m

-- every element is a byte
abbrev pub AllBytes : List ℕ → Type 0
AllBytes l = AllBelow 256 l

-- r is the number in the field of w bytes from byte `at` on, below 256 ^ w
pub record HoldsField (l : List ℕ) (at w r : ℕ) : Type 0 where
  pub is : r ≡ field l at w
  pub small : r < 256 ^ w
