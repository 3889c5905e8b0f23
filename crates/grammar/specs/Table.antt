-- The one fixed table: what a record of each kind completes, its operands, and what its fields may be. Document 01, "Records"; of kind 10
-- document 02, "Duties with a deadline"; of a duty's owner document 02, "Duties that both parties own".
use Rattle.std.specs.Prelude.{ℕ, ◌-◌, Bool, ◌&&◌, cond, List, [], ◌∷◌, eqb, leb}
use Rattle.std.proofs.Math.Option.{Option, none, some}
use Rattle.periods.specs.Limits.{actions}
use Rattle.grammar.specs.Limits.{max_window}
-- what a record completes, and what an operand is
pub use Rattle.grammar.specs.declared.Sort.{Sort}
pub use Rattle.grammar.specs.declared.Sort.TheVariants.{Clause as clause, Expression as expression}
-- the kinds
pub use Rattle.grammar.specs.declared.Kind.{Kind}
pub use Rattle.grammar.specs.declared.Kind.TheVariants.{Duty as duty, Ban as ban, Power as power, Both as both, Then as then, Repair as repair}
pub use Rattle.grammar.specs.declared.Kind.TheVariants.{Repeat as repeat, When as when, Until as until, Deadline as deadline, Any as any}
pub use Rattle.grammar.specs.declared.Kind.TheVariants.{Tries as tries, Idle as idle, Succeeds as succeeds, Fails as fails, Seq as seq}
pub use Rattle.grammar.specs.declared.Kind.TheVariants.{Or as or, Star as star}

-- the numbers from the least to the greatest
pub record Range : Type 0 where
  pub least : ℕ
  pub greatest : ℕ

abbrev pub range : (least greatest : ℕ) → Range
range m n = record { least = m; greatest = n }

abbrev pub within : Range → ℕ → Bool
within r n = leb r.least n && leb n r.greatest

-- "A field that a kind doesn't use is 0."
abbrev pub unused : Range
unused = range 0 0

-- "party (1 or 2)"
abbrev pub party_numbers : Range
party_numbers = range 1 2

-- a duty's owner: a party, or 3 for both
abbrev pub owner_numbers : Range
owner_numbers = range 1 3

-- "actions run from 0 to 31"
abbrev pub action_numbers : Range
action_numbers = range 0 (actions - 1)

-- "a window d of 1 to 15 in the record's last byte"
abbrev pub window_numbers : Range
window_numbers = range 1 max_window

-- a line of the table: the kind's number, what its record completes, the sorts of its operands in the order in which they are read, and the
-- range of each of its fields
pub record Line : Type 0 where
  pub number : ℕ
  pub completes : Sort
  pub operands : List Sort
  pub party : Range
  pub action : Range
  pub last : Range

abbrev entry : ℕ → Sort → List Sort → (party action last : Range) → Line
entry n c os p a z = record { number = n; completes = c; operands = os; party = p; action = a; last = z }

abbrev pub line : Kind → Line
line duty = entry 1 clause [] owner_numbers action_numbers unused
line ban = entry 2 clause [] party_numbers action_numbers unused
line power = entry 3 clause [] party_numbers action_numbers unused
line both = entry 4 clause (clause ∷ clause ∷ []) unused unused unused
line then = entry 5 clause (clause ∷ clause ∷ []) unused unused unused
line repair = entry 6 clause (clause ∷ clause ∷ []) unused unused unused
line repeat = entry 7 clause (clause ∷ []) unused unused unused
line when = entry 8 clause (expression ∷ clause ∷ []) unused unused unused
line until = entry 9 clause (clause ∷ expression ∷ []) unused unused unused
line deadline = entry 10 clause [] party_numbers action_numbers window_numbers
line any = entry 16 expression [] unused unused unused
line tries = entry 17 expression [] party_numbers action_numbers unused
line idle = entry 18 expression [] party_numbers action_numbers unused
line succeeds = entry 19 expression [] unused action_numbers unused
line fails = entry 20 expression [] unused action_numbers unused
line seq = entry 21 expression (expression ∷ expression ∷ []) unused unused unused
line or = entry 22 expression (expression ∷ expression ∷ []) unused unused unused
line star = entry 23 expression (expression ∷ []) unused unused unused

-- every kind, in the table's order
abbrev pub kinds : List Kind
kinds =
    duty ∷ ban ∷ power ∷ both ∷ then ∷ repair ∷ repeat ∷ when ∷ until ∷ deadline ∷ any ∷ tries ∷ idle ∷ succeeds ∷ fails ∷ seq ∷ or ∷ star ∷ []

-- the first of some kinds that has this number
unfoldable pub first_numbered : ℕ → List Kind → Option Kind
first_numbered n [] = none
first_numbered n (k ∷ ks) = cond (eqb (line k).number n) (some k) (first_numbered n ks)

-- the kind of a number, if it is one
unfoldable pub kind_of : ℕ → Option Kind
kind_of n = first_numbered n kinds
