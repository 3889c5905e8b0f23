-- The image of a clause, and the image of a contract: it follows from the contract's bytes alone. Document 01, "Image and row machine".
use Rattle.std.specs.Prelude.{ℕ, List, [], ◌∷◌}
use Rattle.layout.specs.Rows.{Row, never, initial, negation}
use Rattle.layout.specs.Images.{Image, image_bytes}
use Rattle.contract.specs.Meaning.{Clause}
use Rattle.grammar.specs.Reader.{Result, refused, taken, read}
use Rattle.image.specs.Widths.{first_row, later_row, fixed_rows}
use Rattle.image.specs.Blocks.{outputs_of, clause_rows}

-- the clause's block after the fixed rows: it begins to read in period 1 and goes on in every later one
unfoldable pub rows_for : Clause → List Row
rows_for c = never ∷ initial ∷ negation first_row ∷ clause_rows c fixed_rows first_row later_row []

unfoldable pub image : Clause → Image
image c =
    let out = outputs_of c fixed_rows in
    record { rows = rows_for c; S = out.sat; V1 = out.one; V2 = out.two }

-- the bytes of the image of a contract that is taken
abbrev pub image_of_result : Result Clause → List ℕ
image_of_result (refused f k) = []
image_of_result (taken c) = image_bytes (image c)

unfoldable pub image_for : (contract : List ℕ) → List ℕ
image_for contract = image_of_result (read contract)
