-- The bytes that spell a clause, "operands before their operator", how many records it has and the sum of its windows. Document 01, "Records";
-- of windows document 02, "Duties with a deadline"; of a duty's owner document 02, "Duties that both parties own".
use Rattle.std.specs.Prelude.{ℕ, ◌+◌, ◌≤◌, true, List, [], ◌∷◌, ◌++◌, ◌≡◌}
use Rattle.records.specs.Marks.{contract_mark}
use Rattle.periods.specs.declared.Party.{Party}
use Rattle.periods.specs.Periods.{party_number}
use Rattle.contract.specs.Expressions.{Atom, any, tries, idle, succeeds, fails, Expression, atom, seq, or, star}
use Rattle.contract.specs.Meaning.{parties_number, Literal, duty, ban, power, Clause, literal, deadline, both, then, repair, repeat, when, until, EmptyFree}
use Rattle.grammar.specs.Limits.{max_records}
use Rattle.grammar.specs.Table as K
use Rattle.grammar.specs.Table.{Sort, Kind, line}
use Rattle.grammar.specs.Trees.{Tree, Record, good_fields}

-- "`54 43`, kind, party, action", and the last byte, which a deadline alone uses
unfoldable pub spell_record : Record → List ℕ
spell_record r = contract_mark ++ ((line r.kind).number ∷ r.fields.party ∷ r.fields.action ∷ r.fields.last ∷ [])

-- a record of these fields
abbrev record_with : Kind → (party action last : ℕ) → Record
record_with k p a z = record { kind = k; fields = record { party = p; action = a; last = z } }

-- the record of a kind that uses no field, as of every operator
abbrev pub plain_record : Kind → Record
plain_record k = record_with k 0 0 0

abbrev pub atom_record : Atom → Record
atom_record any = plain_record K.any
atom_record (tries p a) = record_with K.tries (party_number p) a 0
atom_record (idle p a) = record_with K.idle (party_number p) a 0
atom_record (succeeds a) = record_with K.succeeds 0 a 0
atom_record (fails a) = record_with K.fails 0 a 0

abbrev pub literal_record : Literal → (action : ℕ) → Record
literal_record (duty o) a = record_with K.duty (parties_number o) a 0
literal_record (ban p) a = record_with K.ban (party_number p) a 0
literal_record (power p) a = record_with K.power (party_number p) a 0

abbrev pub deadline_record : Party → (action window : ℕ) → Record
deadline_record p a d = record_with K.deadline (party_number p) a d

unfoldable pub spell_expression : Expression → List ℕ
spell_expression (atom x) = spell_record (atom_record x)
spell_expression (seq l r) = spell_expression l ++ spell_expression r ++ spell_record (plain_record K.seq)
spell_expression (or l r) = spell_expression l ++ spell_expression r ++ spell_record (plain_record K.or)
spell_expression (star e) = spell_expression e ++ spell_record (plain_record K.star)

unfoldable pub spell : Clause → List ℕ
spell (literal l a) = spell_record (literal_record l a)
spell (deadline p a d) = spell_record (deadline_record p a d)
spell (both l r) = spell l ++ spell r ++ spell_record (plain_record K.both)
spell (then l r) = spell l ++ spell r ++ spell_record (plain_record K.then)
spell (repair l r) = spell l ++ spell r ++ spell_record (plain_record K.repair)
spell (repeat c) = spell c ++ spell_record (plain_record K.repeat)
spell (when e c) = spell_expression e ++ spell c ++ spell_record (plain_record K.when)
spell (until c e) = spell c ++ spell_expression e ++ spell_record (plain_record K.until)

-- how many records a tree has
unfoldable pub expression_records : Expression → ℕ
expression_records (atom x) = 1
expression_records (seq l r) = expression_records l + expression_records r + 1
expression_records (or l r) = expression_records l + expression_records r + 1
expression_records (star e) = expression_records e + 1

unfoldable pub records : Clause → ℕ
records (literal l a) = 1
records (deadline p a d) = 1
records (both l r) = records l + records r + 1
records (then l r) = records l + records r + 1
records (repair l r) = records l + records r + 1
records (repeat c) = records c + 1
records (when e c) = expression_records e + records c + 1
records (until c e) = records c + expression_records e + 1

-- the sum of all windows of a clause
unfoldable pub windows : Clause → ℕ
windows (literal l a) = 0
windows (deadline p a d) = d
windows (both l r) = windows l + windows r
windows (then l r) = windows l + windows r
windows (repair l r) = windows l + windows r
windows (repeat c) = windows c
windows (when e c) = windows c
windows (until c e) = windows c

-- of a tree of either sort
abbrev pub spell_tree : (s : Sort) → Tree s → List ℕ
spell_tree K.clause c = spell c
spell_tree K.expression e = spell_expression e

abbrev pub tree_records : (s : Sort) → Tree s → ℕ
tree_records K.clause c = records c
tree_records K.expression e = expression_records e

-- a record's fields are in the ranges of its kind
abbrev pub Allowed : Record → Type 0
Allowed r = good_fields (line r.kind) r.fields ≡ true

-- so are those of every record of a tree; an operator's are 0
unfoldable pub ExpressionInRange : Expression → Type 0
ExpressionInRange (atom x) = Allowed (atom_record x)
ExpressionInRange (seq l r) = ExpressionInRange l × ExpressionInRange r
ExpressionInRange (or l r) = ExpressionInRange l × ExpressionInRange r
ExpressionInRange (star e) = ExpressionInRange e

unfoldable pub InRange : Clause → Type 0
InRange (literal l a) = Allowed (literal_record l a)
InRange (deadline p a d) = Allowed (deadline_record p a d)
InRange (both l r) = InRange l × InRange r
InRange (then l r) = InRange l × InRange r
InRange (repair l r) = InRange l × InRange r
InRange (repeat c) = InRange c
InRange (when e c) = ExpressionInRange e × InRange c
InRange (until c e) = InRange c × ExpressionInRange e

-- the bytes spell this clause, and it is one that a contract may be: 1 to 64 records, fields in range, and no expression under `when` or
-- `until` that holds the empty list
pub record Spells (l : List ℕ) (c : Clause) : Type 0 where
  pub bytes : l ≡ spell c
  pub some_records : 1 ≤ records c
  pub few_records : records c ≤ max_records
  pub in_range : InRange c
  pub empty_free : EmptyFree c
