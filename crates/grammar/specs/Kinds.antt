-- The kind of a number as the program finds it.
use Rattle.std.specs.Prelude.{◌≡◌, ℕ, Result, Ok, Err}
use Rattle.std.proofs.Math.Option.{Option, none, some}
use Rattle.records.specs.declared.Fault.{Fault}
use Rattle.records.specs.declared.Fault.TheVariants.{UnknownKind}
use Rattle.grammar.specs.Table.{Kind, kind_of}

-- the kind that there may be, or fault 3
abbrev pub known_kind : Option Kind → Result Kind Fault
known_kind none = Err UnknownKind
known_kind (some k) = Ok k

-- what the conversion of a number gives
abbrev pub NumbersKind : ℕ → Result Kind Fault → Type 0
NumbersKind n r = r ≡ known_kind (kind_of n)
