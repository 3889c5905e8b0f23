-- How a contract's bytes are read: record by record onto a stack of operands, to a clause or the first refusal.
-- Document 01, "Records" and, for refusals 1 to 7, "Replies that refuse"; of windows document 02, "Duties with a deadline".
use Rattle.std.specs.Prelude.{ℕ, zero, suc, ◌+◌, ◌*◌, ◌/◌, ◌%◌, Bool, false, ◌&&◌, not, cond, List, [], ◌∷◌, eqb, ltb, leb, length, drop, get_or, Ok, Err}
use Rattle.std.proofs.Math.Option.{Option, none, some}
use Rattle.records.specs.Marks.{contract_mark, marked}
use Rattle.records.specs.declared.Fault.{Fault}
use Rattle.records.specs.declared.Fault.TheVariants.{BadLength, BadMark, UnknownKind, BadField, BadOperands, NotOneClause, EmptyList}
use Rattle.records.specs.Refusals.{Test, Passed, Refused, require}
use Rattle.contract.specs.Expressions.{holds_empty}
use Rattle.contract.specs.Meaning as M
use Rattle.contract.specs.Meaning.{Clause, literal, both, then, repair, repeat, when, until}
use Rattle.grammar.specs.Limits.{max_records, record_bytes}
use Rattle.grammar.specs.Table.{Sort, clause, expression, deadline, kind_of, line}
use Rattle.grammar.specs.Trees.{Tree, Trees, Fields, good_fields, node}

-- refused for a fault at a place, or taken
pub data Result (A : Type 0) : Type 0 where
  refused : Fault → (place : ℕ) → Result A
  taken : A → Result A

-- what follows where nothing is refused
abbrev pub next : {A B : Type 0} → Result A → (A → Result B) → Result B
next (refused f k) g = refused f k
next (taken x) g = g x

-- what is read where a test is passed
abbrev pub provided : {A : Type 0} → Test → Result A → Result A
provided (Ok u) r = r
provided (Err e) r = refused e.fault e.place

-- refused where there is none
abbrev pub demand : {A B : Type 0} → Option A → Fault → (place : ℕ) → (A → Result B) → Result B
demand none f k g = refused f k
demand (some x) f k g = g x

-- ---- the record from byte `at` on: its kind's number and its fields

abbrev pub kind_at : List ℕ → (at : ℕ) → ℕ
kind_at l at = get_or l (at + 2) 0

abbrev pub fields_at : List ℕ → (at : ℕ) → Fields
fields_at l at = record { party = get_or l (at + 3) 0; action = get_or l (at + 4) 0; last = get_or l (at + 5) 0 }

-- ---- 5: the operands

-- a tree that awaits its operator
pub data Operand : Type 0 where
  operand : (s : Sort) → Tree s → Operand

-- operands of these sorts, and the stack below them
pub record Operands (ss : List Sort) : Type 0 where
  pub trees : Trees ss
  pub rest : List Operand

-- one more operand, from the top of the stack below the others
abbrev pub one_more : (s : Sort) {ss : List Sort} → Trees ss → List Operand → Option (Operands (s ∷ ss))
one_more s ts [] = none
one_more clause ts (operand clause c ∷ st) = some (record { trees = (c, ts); rest = st })
one_more clause ts (operand expression e ∷ st) = none
one_more expression ts (operand clause c ∷ st) = none
one_more expression ts (operand expression e ∷ st) = some (record { trees = (e, ts); rest = st })

abbrev pub below : (s : Sort) {ss : List Sort} → Option (Operands ss) → Option (Operands (s ∷ ss))
below s none = none
below s (some os) = one_more s os.trees os.rest

-- the operands of these sorts on a stack, its top first: the last operand is on top
unfoldable pub operands_of : (ss : List Sort) → List Operand → Option (Operands ss)
operands_of [] st = some (record { trees = tt; rest = st })
operands_of (s ∷ ss) st = below s (operands_of ss st)

-- ---- 7: "An expression under `when` or `until` must not hold the empty list." The test `holds_empty` decides whether the empty list is in the
-- expression's set.

abbrev pub clause_holds_empty : Clause → Bool
clause_holds_empty (literal l a) = false
clause_holds_empty (M.deadline p a d) = false
clause_holds_empty (both l r) = false
clause_holds_empty (then l r) = false
clause_holds_empty (repair l r) = false
clause_holds_empty (repeat c) = false
clause_holds_empty (when e c) = holds_empty e
clause_holds_empty (until c e) = holds_empty e

abbrev pub holds_empty_under : (s : Sort) → Tree s → Bool
holds_empty_under clause c = clause_holds_empty c
holds_empty_under expression e = false

-- ---- "for each record 2, 3, 4, 5, 7, then 6"

-- the tree of record k with its operands, pushed where it passes 7
abbrev pub push : (k : ℕ) (s : Sort) → Tree s → List Operand → Result (List Operand)
push k s t st = provided (require (not (holds_empty_under s t)) EmptyList k) (taken (operand s t ∷ st))

-- the stack after record k, which stands first in the bytes
unfoldable pub read_record : (k : ℕ) → List Operand → List ℕ → Result (List Operand)
read_record k st l =
    provided (require (marked l 0 contract_mark) BadMark k)
    (demand (kind_of (kind_at l 0)) UnknownKind k
    (λ kind. provided (require (good_fields (line kind) (fields_at l 0)) BadField k)
    (demand (operands_of (line kind).operands st) BadOperands k
    (λ os. push k (line kind).completes (node kind (fields_at l 0) os.trees) os.rest))))

-- the stack after n records, the first of which is record k
unfoldable pub read_records : (k n : ℕ) → List Operand → List ℕ → Result (List Operand)
read_records k zero st l = taken st
read_records k (suc n) st l = next (read_record k st l) (λ st'. read_records (suc k) n st' (drop record_bytes l))

-- 6: "at the end not just one clause; record count"
abbrev pub just_one : (n : ℕ) → List Operand → Result Clause
just_one n [] = refused NotOneClause n
just_one n (operand clause c ∷ []) = taken c
just_one n (operand expression e ∷ []) = refused NotOneClause n
just_one n (o ∷ p ∷ st) = refused NotOneClause n

-- how many records a contract has
unfoldable pub contract_records : List ℕ → ℕ
contract_records l = length l / record_bytes

-- the window of the record from byte `at` on: a deadline's last byte; no other kind has one
abbrev pub window_at : List ℕ → (at : ℕ) → ℕ
window_at l at = cond (eqb (kind_at l at) (line deadline).number) (fields_at l at).last 0

-- the sum of all windows of the first n records, and of a contract
unfoldable pub windows_of : List ℕ → (n : ℕ) → ℕ
windows_of l zero = 0
windows_of l (suc n) = windows_of l n + window_at l (record_bytes * n)

unfoldable pub contract_windows : List ℕ → ℕ
contract_windows l = windows_of l (contract_records l)

-- 1: "contract empty, not a multiple of 6 bytes, or over 64 records; 0"
unfoldable pub good_contract_length : List ℕ → Bool
good_contract_length l = ltb 0 (length l) && eqb (length l % record_bytes) 0 && leb (length l) (record_bytes * max_records)

-- the clause that a contract's records spell, or the first refusal: "A contract means what the clause that its last record completes means."
unfoldable pub read : List ℕ → Result Clause
read l = provided (require (good_contract_length l) BadLength 0) (next (read_records 0 (contract_records l) [] l) (just_one (contract_records l)))

-- what a reading's tests find
abbrev pub test_of : {A : Type 0} → Result A → Test
test_of (refused f k) = Refused f k
test_of (taken x) = Passed

unfoldable pub read_test : List ℕ → Test
read_test l = test_of (read l)
