-- What a caller of the reader knows of a contract that is taken.
use Rattle.std.specs.Prelude.{ℕ, List, ◌≡◌}
use Rattle.contract.specs.Meaning.{Clause}
use Rattle.grammar.specs.Spelling.{records, Spells}
use Rattle.grammar.specs.Reader.{taken, read}

-- the bytes are read as this clause, which they spell, and it has so many records
pub record Contract (l : List ℕ) (n : ℕ) : Type 0 where
  pub clause : Clause
  pub is : read l ≡ taken clause
  pub spells : Spells l clause
  pub count : n ≡ records clause
