-- A row's kind and its fields, and an end record's, as the code has them.
use Rattle.std.specs.Prelude.{◌≡◌, ℕ, ◌+◌, ◌<◌, List, Option as Found, Result, MatchOption, MatchResult}
use Rattle.std.proofs.Math.Option.{Option, none}
use Rattle.layout.specs.declared.RowKind.{RowKind}
use Rattle.layout.specs.declared.RowKind.TheVariants.{Never, Initial, Attempt, Not, And, Or, Previous}
use Rattle.layout.specs.declared.RowFields.{RowFields}
use Rattle.layout.specs.declared.NoRowKind.{NoRowKind}
use Rattle.layout.specs.declared.EndFields.{EndFields}
use Rattle.records.specs.Fields.{field}
use Rattle.layout.specs.Rows.{Row, row_of, row_in}

-- a kind's byte
abbrev pub kind_number : RowKind → ℕ
kind_number Never = 0
kind_number Initial = 1
kind_number Attempt = 2
kind_number Not = 3
kind_number And = 4
kind_number Or = 5
kind_number Previous = 6

-- the kind of a byte, or an error where no kind has it
abbrev pub ReadsKind : ℕ → Result RowKind NoRowKind → Type 0
ReadsKind number r = MatchResult r (λ kind. kind_number kind ≡ number) (λ e. kind_number Previous < number)

-- the row of a kind and its fields
abbrev pub row_from : RowFields → Option Row
row_from r = row_of (kind_number r.kind) r.x r.y

-- the fields of a row of this kind from byte `at` on
abbrev pub fields_in : RowKind → List ℕ → ℕ → RowFields
fields_in kind l at = record { kind = kind; x = field l (at + 4) 2; y = field l (at + 6) 2 }

-- the fields of the row from byte `at` on; none only where its kind and fields make no row
abbrev pub GivesRow : List ℕ → ℕ → Found RowFields → Type 0
GivesRow l at found = MatchOption found (row_in l at ≡ none) (λ r. row_from r ≡ row_in l at)

-- the numbers in the end record from byte `at` on
abbrev pub end_in : List ℕ → ℕ → EndFields
end_in l at = record { sat = field l (at + 2) 2; one = field l (at + 4) 2; two = field l (at + 6) 2 }
