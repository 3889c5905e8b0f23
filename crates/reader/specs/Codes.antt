-- What the reader's program computes with: the table as the program has it, and a code for each operand on the stack. That this is the reading of
-- grammar/specs/Reader.antt is shown in proofs/Codes.antt.
use Rattle.std.specs.Prelude.{ℕ, ◌≤◌, ◌*◌, Bool, true, false, ◌&&◌, ◌||◌, not, cond, List, [], ◌∷◌, map, eqb, leb, length, get_or, Result, Ok, Err}
use Rattle.std.proofs.Math.Option.{Option, none, some}
use Rattle.records.specs.Marks.{contract_mark, marked}
use Rattle.contract.specs.Expressions.{holds_empty}
use Rattle.records.specs.declared.Refusal.{Refusal}
use Rattle.records.specs.Refusals.{Test, require}
use Rattle.records.specs.declared.Fault.TheVariants.{BadMark, UnknownKind, BadField, BadOperands, EmptyList}
use Rattle.reader.specs.declared.table.Operands.{Operands}
use Rattle.reader.specs.declared.table.Operands.TheVariants.{Zero, One, Two}
use Rattle.reader.specs.declared.table.Entry.{Entry}
use Rattle.reader.specs.declared.Step.{Step}
use Rattle.grammar.specs.Limits.{max_records, record_bytes}
use Rattle.grammar.specs.declared.Sort.{Sort}
use Rattle.grammar.specs.declared.Kind.{Kind}
use Rattle.grammar.specs.declared.Sort.TheVariants.{Clause as clause, Expression as expression}
use Rattle.grammar.specs.declared.Kind.TheVariants.{Duty as duty, When as when, Until as until, Deadline as deadline, Seq as seq, Or as or, Star as star}
use Rattle.grammar.specs.Table.{range, within, line, kind_of}
use Rattle.grammar.specs.Trees.{Fields}
use Rattle.grammar.specs.Reader.{kind_at, fields_at, Operand, operand}

-- ---- the table

-- at most two sorts
abbrev pub operands_in : List Sort → Operands
operands_in [] = Zero
operands_in (s ∷ []) = One s
operands_in (s ∷ s' ∷ ss) = Two s s'

abbrev pub count_of : Operands → ℕ
count_of Zero = 0
count_of (One s) = 1
count_of (Two s s') = 2

abbrev pub entry_of : Kind → Entry
entry_of k =
    record {
      operands = operands_in (line k).operands;
      party = record { least = (line k).party.least; greatest = (line k).party.greatest };
      action = record { least = (line k).action.least; greatest = (line k).action.greatest };
      last = record { least = (line k).last.least; greatest = (line k).last.greatest };
    }

-- how many operands, 0 where there is no such kind
abbrev pub operand_count : Option Kind → ℕ
operand_count none = 0
operand_count (some k) = length (line k).operands

-- ---- 4: the fields

abbrev pub in_ranges : Entry → Fields → Bool
in_ranges e f =
    within (range e.party.least e.party.greatest) f.party
    && within (range e.action.least e.action.greatest) f.action
    && within (range e.last.least e.last.greatest) f.last

-- ---- the operands

abbrev pub sort_number : Sort → ℕ
sort_number clause = 1
sort_number expression = 2

-- the code of an expression that holds the empty list; every other operand's is its sort's number
abbrev pub empty_code : ℕ
empty_code = 3

abbrev pub expression_code : Bool → ℕ
expression_code empty = cond empty empty_code (sort_number expression)

abbrev pub code_of : Operand → ℕ
code_of (operand clause c) = sort_number clause
code_of (operand expression e) = expression_code (holds_empty e)

-- the code of the operand i places below the top, 0 where there is none
abbrev pub code_at : List Operand → ℕ → ℕ
code_at st i = get_or (map code_of st) i 0

-- the code is one of an operand of this sort
abbrev pub has_sort : (code : ℕ) → Sort → Bool
has_sort c clause = eqb c (sort_number clause)
has_sort c expression = eqb c (sort_number expression) || eqb c empty_code

-- 5: of the two operands on top
abbrev pub good_operands : Operands → (below top : ℕ) → Bool
good_operands Zero b t = true
good_operands (One s) b t = has_sort t s
good_operands (Two s s') b t = has_sort b s && has_sort t s'

-- 7: under `when` the expression is the first operand, under `until` the second
abbrev pub empty_under : Kind → (below top : ℕ) → Bool
empty_under when b t = eqb b empty_code
empty_under until b t = eqb t empty_code
empty_under _ b t = false

-- the code of what a record completes
unfoldable pub completed : (kind below top : ℕ) → ℕ
completed k b t =
    cond (leb (line duty).number k && leb k (line deadline).number) (sort_number clause)
    (cond (eqb k (line seq).number) (expression_code (eqb b empty_code && eqb t empty_code))
    (cond (eqb k (line or).number) (expression_code (eqb b empty_code || eqb t empty_code))
    (expression_code (eqb k (line star).number))))

-- ---- a record

-- what a test that is passed goes on with
abbrev pub then_step : Test → Result Step Refusal → Result Step Refusal
then_step (Ok u) r = r
then_step (Err e) r = Err e

-- the tests of record k after its mark
abbrev pub step_found : Option Kind → (k : ℕ) → Fields → (below top : ℕ) → Result Step Refusal
step_found none k f b t = Err (record { fault = UnknownKind; place = k })
step_found (some kind) k f b t =
    let e = entry_of kind in
    then_step (require (in_ranges e f) BadField k)
    (then_step (require (good_operands e.operands b t) BadOperands k)
    (then_step (require (not (empty_under kind b t)) EmptyList k)
    (Ok (record { operands = count_of e.operands; code = completed (line kind).number b t }))))

-- what record k, from byte `at` on, does to a stack with these two codes on top: refused, or so many operands replaced by one of this code
unfoldable pub step_of : List ℕ → (at k : ℕ) → (below top : ℕ) → Result Step Refusal
step_of l at k b t =
    then_step (require (marked l at contract_mark) BadMark k) (step_found (kind_of (kind_at l at)) k (fields_at l at) b t)

-- ---- the premises of the inner functions

-- the bytes have at least n records, and n is not too many
pub record HasRecords (l : List ℕ) (n : ℕ) : Type 0 where
  pub whole : record_bytes * n ≤ length l
  pub few : n ≤ max_records
