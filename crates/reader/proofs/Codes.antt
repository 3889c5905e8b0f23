-- What the reader's program computes on codes is the reading on trees: a record's step, and the test at the end.
use Prim.Native.Nat.{ℕ, ◌+◌, ◌≤◌}
use native.Mathlib.Nat.{zero-add}
use native.Mathlib.Numerals.{add-one}
use native.Mathlib.Omega.{arith}
use mathlib.Core.Path.{◌≡◌, refl, sym, ap, ◌∙◌, subst}
use mathlib.Core.Bool.{Bool, true, false, ◌&&◌, not, and-true, and-false}
use mathlib.Core.List.{List, [], ◌∷◌, map}
use mathlib.Core.Option.{Option, none, some}
use lib.Dec.{eqb, leb}
use lib.ListN.{length, drop}
use lib.Seq.{drop-drop, get_or-drop}
use borrow.Author.Tests.{ne_eqb, leb-true}
use Rattle.records.specs.Marks.{contract_mark, marked}
use Rattle.records.proofs.Marks.{marked-drop}
use Rattle.contract.specs.Expressions.{holds_empty}
use Rattle.records.specs.declared.Fault.{Fault}
use Rattle.records.specs.declared.Refusal.{Refusal}
use Rattle.records.specs.Refusals.{Test, require}
use Rattle.records.specs.declared.Fault.TheVariants.{BadMark, UnknownKind, BadField, BadOperands, NotOneClause, EmptyList}
use Rattle.std.specs.Prelude.{Ok, Err}
use Rattle.std.specs.Prelude.{Result as Outcome}
use Rattle.reader.specs.declared.Step.{Step}
use Rattle.grammar.specs.declared.Sort.{Sort}
use Rattle.grammar.specs.declared.Kind.{Kind}
use Rattle.grammar.specs.declared.Sort.TheVariants.{Clause as clause, Expression as expression}
use Rattle.grammar.specs.declared.Kind.TheVariants.{Duty as duty, Ban as ban, Power as power, Both as both, Then as then, Repair as repair, Repeat as repeat, When as when, Until as until, Deadline as deadline, Any as any, Tries as tries, Idle as idle, Succeeds as succeeds, Fails as fails, Seq as seq, Or as or, Star as star}
use Rattle.grammar.specs.Table.{kind_of, line}
use Rattle.grammar.specs.Trees.{Trees, Fields, good_fields, node}
use Rattle.grammar.specs.Reader.{Result, refused, taken, provided, demand, kind_at, fields_at, Operand, operand, one_more, below, operands_of, holds_empty_under, push, read_record, just_one, test_of}
use Rattle.reader.specs.Codes.{sort_number, operands_in, count_of, entry_of, operand_count, in_ranges, empty_code, expression_code, code_of, code_at, has_sort, good_operands, empty_under, completed, then_step, step_found, step_of}
use Rattle.grammar.proofs.Table.{of_all}
use Rattle.grammar.proofs.Nodes.{onto, onto_operands}

-- ---- 4: the fields

same_ranges : (K : Kind) (f : Fields) → in_ranges (entry_of K) f ≡ good_fields (line K) f
unfolding good_fields
same_ranges K f = refl

-- ---- 5: the operands

abbrev present : {A : Type 0} → Option A → Bool
present none = false
present (some x) = true

pub few_operands : (K : Kind) → length (line K).operands ≤ 2
few_operands K = leb-true (length (line K).operands) 2 (of_all (λ J. leb (length (line J).operands) 2) refl K)

pub operand_count-max : (o : Option Kind) → operand_count o ≤ 2
operand_count-max none = omega arith
operand_count-max (some K) = few_operands K

counted : (ss : List Sort) → length ss ≤ 2 → count_of (operands_in ss) ≡ length ss
counted [] h = refl
counted (s ∷ []) h = refl
counted (s ∷ s' ∷ []) h = refl
counted (s ∷ s' ∷ s'' ∷ ss) h = absurd (omega arith)

not_of_clause : (empty : Bool) → has_sort (expression_code empty) clause ≡ false
not_of_clause true = refl
not_of_clause false = refl

of_expression : (empty : Bool) → has_sort (expression_code empty) expression ≡ true
of_expression true = refl
of_expression false = refl

one_present : (s : Sort) (ss : List Sort) (ts : Trees ss) (st : List Operand) → has_sort (code_at st 0) s ≡ present (one_more s {ss = ss} ts st)
one_present clause ss ts [] = refl
one_present expression ss ts [] = refl
one_present clause ss ts (operand clause c ∷ st) = refl
one_present clause ss ts (operand expression e ∷ st) = not_of_clause (holds_empty e)
one_present expression ss ts (operand clause c ∷ st) = refl
one_present expression ss ts (operand expression e ∷ st) = of_expression (holds_empty e)

two_present : (s s' : Sort) (st : List Operand)
    → (has_sort (code_at st 1) s && has_sort (code_at st 0) s') ≡ present (below s (one_more s' {ss = []} tt st))
two_present s clause [] = and-false (has_sort 0 s)
two_present s expression [] = and-false (has_sort 0 s)
two_present s clause (operand clause c ∷ st) = and-true _ ∙ one_present s (clause ∷ []) (c, tt) st
two_present s clause (operand expression e ∷ st) = ap (λ t. has_sort (code_at st 0) s && t) (not_of_clause (holds_empty e)) ∙ and-false (has_sort (code_at st 0) s)
two_present s expression (operand clause c ∷ st) = and-false (has_sort (code_at st 0) s)
two_present s expression (operand expression e ∷ st) =
    ap (λ t. has_sort (code_at st 0) s && t) (of_expression (holds_empty e)) ∙ and-true _ ∙ one_present s (expression ∷ []) (e, tt) st

operands_present : (ss : List Sort) (st : List Operand) → length ss ≤ 2
    → good_operands (operands_in ss) (code_at st 1) (code_at st 0) ≡ present (operands_of ss st)
unfolding operands_of
operands_present [] st h = refl
operands_present (s ∷ []) st h = one_present s [] tt st
operands_present (s ∷ s' ∷ []) st h = two_present s s' st
operands_present (s ∷ s' ∷ s'' ∷ ss) st h = absurd (omega arith)

onto_length : (ss : List Sort) (ts : Trees ss) (st : List Operand) → length (onto ss ts st) ≡ length ss + length st
onto_length [] ts st = sym (zero-add (length st))
onto_length (s ∷ ss) ts st = omega (arith, onto_length ss ts.1 (operand s ts.0 ∷ st))

onto_below : (ss : List Sort) (ts : Trees ss) (st : List Operand) → drop (length ss) (map code_of (onto ss ts st)) ≡ map code_of st
onto_below [] ts st = refl
onto_below (s ∷ ss) ts st =
    let st' = operand s ts.0 ∷ st in
    rw (← add-one, ← drop-drop 1 (length ss) (map code_of (onto ss ts.1 st')), onto_below ss ts.1 st')

-- ---- 7, and what is pushed

pub is_empty : (empty : Bool) → eqb (expression_code empty) empty_code ≡ empty
is_empty true = refl
is_empty false = refl

-- the codes on a stack tell of the tree that a record makes of its operands whether it fails 7, and its code
record Told (K : Kind) (f : Fields) (ts : Trees (line K).operands) (st : List Operand) : Type 0 where
  empty : empty_under K (code_at st 1) (code_at st 0) ≡ holds_empty_under (line K).completes (node K f ts)
  code : completed (line K).number (code_at st 1) (code_at st 0) ≡ code_of (operand (line K).completes (node K f ts))

told : (K : Kind) (f : Fields) (ts : Trees (line K).operands) (st : List Operand) → Told K f ts (onto (line K).operands ts st)
unfolding completed node holds_empty
told duty f ts st = record { empty = refl; code = refl }
told ban f ts st = record { empty = refl; code = refl }
told power f ts st = record { empty = refl; code = refl }
told both f ts st = record { empty = refl; code = refl }
told then f ts st = record { empty = refl; code = refl }
told repair f ts st = record { empty = refl; code = refl }
told repeat f ts st = record { empty = refl; code = refl }
told when f ts st = record { empty = is_empty (holds_empty ts.0); code = refl }
told until f ts st = record { empty = is_empty (holds_empty ts.1.0); code = refl }
told deadline f ts st = record { empty = refl; code = refl }
told any f ts st = record { empty = refl; code = refl }
told tries f ts st = record { empty = refl; code = refl }
told idle f ts st = record { empty = refl; code = refl }
told succeeds f ts st = record { empty = refl; code = refl }
told fails f ts st = record { empty = refl; code = refl }
told seq f ts st = record { empty = refl; code = rw (is_empty (holds_empty ts.0), is_empty (holds_empty ts.1.0)) }
told or f ts st = record { empty = refl; code = rw (is_empty (holds_empty ts.0), is_empty (holds_empty ts.1.0)) }
told star f ts st = record { empty = refl; code = refl }

-- ---- a record

-- the stack after a result: m operands of the stack replaced by one of code c
pub record Replaced (st : List Operand) (r : Result (List Operand)) (m c : ℕ) : Type 0 where
  pub after : List Operand
  pub is : r ≡ taken after
  pub codes : map code_of after ≡ c ∷ drop m (map code_of st)
  pub enough : m ≤ length st

-- what a record does to a stack, told by its codes
abbrev pub Pushed : (k : ℕ) (st : List Operand) (l : List ℕ) (m c : ℕ) → Type 0
Pushed k st l m c = Replaced st (read_record k st l) m c

-- a result on trees is that of a step on codes
abbrev Agrees : List Operand → Result (List Operand) → Outcome Step Refusal → Type 0
Agrees st r (Err e) = r ≡ refused e.fault e.place
Agrees st r (Ok s) = Replaced st r s.operands s.code

module _ (k : ℕ) (st : List Operand) where
  agrees_test : (t : Test) (r : Result (List Operand)) (s : Outcome Step Refusal) → Agrees st r s → Agrees st (provided t r) (then_step t s)
  agrees_test (Ok u) r s h = h
  agrees_test (Err e) r s h = refl

  agrees_demand : {A : Type 0} (o : Option A) (f : Fault) (g : A → Result (List Operand)) (s : Outcome Step Refusal)
      → ((x : A) → o ≡ some x → Agrees st (g x) s) → Agrees st (demand o f k g) (then_step (require (present o) f k) s)
  agrees_demand none f g s each = refl
  agrees_demand (some x) f g s each = each x refl

  agrees_kind : (o : Option Kind) (g : Kind → Result (List Operand)) (f : Fields) (b t : ℕ)
      → ((K : Kind) → Agrees st (g K) (step_found (some K) k f b t))
      → Agrees st (demand o UnknownKind k g) (step_found o k f b t)
  agrees_kind none g f b t each = refl
  agrees_kind (some K) g f b t each = each K

-- where the operands are there: the tree is pushed or refused as the codes say
agrees_push : (k : ℕ) (K : Kind) (f : Fields) (ts : Trees (line K).operands) (rest : List Operand)
    → let st = onto (line K).operands ts rest in
    Agrees st (push k (line K).completes (node K f ts) rest)
    (then_step (require (not (empty_under K (code_at st 1) (code_at st 0))) EmptyList k)
    (Ok (record { operands = count_of (entry_of K).operands; code = completed (line K).number (code_at st 1) (code_at st 0) })))
agrees_push k K f ts rest =
    let st = onto (line K).operands ts rest in
    let w = told K f ts rest in
    rw (w.empty, w.code, counted (line K).operands (few_operands K))
    (agrees_test k st (require (not (holds_empty_under (line K).completes (node K f ts))) EmptyList k) _ _
    record {
      after = operand (line K).completes (node K f ts) ∷ rest;
      is = refl;
      codes = rw (onto_below (line K).operands ts rest);
      enough = omega (arith, onto_length (line K).operands ts rest);
    })

-- the tests of a record, in their order
agrees : (k : ℕ) (st : List Operand) (l : List ℕ) → Agrees st (read_record k st l) (step_of l 0 k (code_at st 1) (code_at st 0))
unfolding read_record step_of
agrees k st l =
    let f = fields_at l 0 in
    agrees_test k st (require (marked l 0 contract_mark) BadMark k) _ _
    (agrees_kind k st (kind_of (kind_at l 0)) _ f (code_at st 1) (code_at st 0)
    (λ K. rw (same_ranges K f)
    (agrees_test k st (require (good_fields (line K) f) BadField k) _ _
    (rw (operands_present (line K).operands st (few_operands K))
    (agrees_demand k st (operands_of (line K).operands st) BadOperands _ _
    (λ os e. rw (onto_operands (line K).operands st os e) (agrees_push k K f os.trees os.rest)))))))

-- the record from byte `at` on stands first in the bytes from there on
pub step-drop : (l : List ℕ) (at k b t : ℕ) → step_of l at k b t ≡ step_of (drop at l) 0 k b t
unfolding step_of
step-drop l at k b t = rw (marked-drop l at contract_mark) (simp get_or-drop)

pub step_refused : (k : ℕ) (st : List Operand) (l : List ℕ) (e : Refusal) → step_of l 0 k (code_at st 1) (code_at st 0) ≡ Err e
    → read_record k st l ≡ refused e.fault e.place
step_refused k st l e h = subst (Agrees st (read_record k st l)) h (agrees k st l)

pub step-completed : (k : ℕ) (st : List Operand) (l : List ℕ) (s : Step) → step_of l 0 k (code_at st 1) (code_at st 0) ≡ Ok s → Pushed k st l s.operands s.code
step-completed k st l s h = subst (Agrees st (read_record k st l)) h (agrees k st l)

-- ---- 6

expression_code_lem : (empty : Bool) → eqb (expression_code empty) (sort_number clause) ≡ false
expression_code_lem true = refl
expression_code_lem false = refl

pub end_test : (n : ℕ) (st : List Operand)
    → test_of (just_one n st) ≡ require (eqb (length st) 1 && eqb (code_at st 0) (sort_number clause)) NotOneClause n
end_test n [] = refl
end_test n (operand clause c ∷ []) = refl
end_test n (operand expression e ∷ []) = rw (expression_code_lem (holds_empty e))
end_test n (o ∷ p ∷ st) = rw (ne_eqb (length (o ∷ p ∷ st)) 1 (λ e. omega arith))
