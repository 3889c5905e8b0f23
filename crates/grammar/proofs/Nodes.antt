-- What one record does to the stack: it takes the operands of its kind off it and puts the node of its kind, fields and operands on it,
-- where the fields are in range and no expression under it holds the empty list.
use Prim.Native.Nat.{ℕ, suc, ◌≤◌, ◌<◌}
use native.Mathlib.Omega.{arith}
use mathlib.Core.Bool.{Bool, true, false, not, false≢true}
use mathlib.Core.List.{List, [], ◌∷◌, ◌++◌}
use mathlib.Core.Logic.{◌↔◌, ⊎_elim}
use mathlib.Core.Option.{Option, none, some}
use mathlib.Core.Path.{◌≡◌, refl, sym, ap, ◌∙◌}
use lib.Dec.{lit<}
use lib.ListN.{length, take, drop, get_or}
use lib.Seq.{take-add, drop-cons}
use borrow.Author.Tests.{not-true}
use Rattle.records.specs.Marks.{contract_mark, marked}
use Rattle.records.proofs.Cases.{true_or_false}
use Rattle.records.proofs.Marks.{of_marked}
use Rattle.contract.specs.Expressions.{Expression, Holds, holds_empty}
use Rattle.contract.specs.Meaning.{Clause, EmptyFree}
use Rattle.contract.proofs.Expressions.{empty_iff}
use Rattle.records.specs.declared.Fault.{Fault}
use Rattle.records.specs.Refusals.{require}
use Rattle.records.specs.declared.Fault.TheVariants.{BadMark, UnknownKind, BadField, BadOperands, EmptyList}
use Rattle.grammar.specs.Limits.{record_bytes}
use Rattle.grammar.specs.Table.{Sort, clause, expression, Kind, duty, ban, power, both, then, repair, repeat, when, until, deadline, any, tries, idle, succeeds, fails, seq, or, star, kind_of, line}
use Rattle.grammar.specs.Trees.{Tree, Trees, Fields, good_fields, node}
use Rattle.grammar.specs.Spelling.{spell_record, Allowed, ExpressionInRange, InRange}
use Rattle.grammar.specs.Reader.{Result, refused, taken, next, provided, demand, kind_at, fields_at, Operand, operand, Operands, one_more, operands_of, holds_empty_under, push, read_record}
use Rattle.grammar.proofs.Table.{kind_number, number_kind}
use Rattle.grammar.proofs.Fields.{record_of, used_same}
use Rattle.grammar.proofs.Spelling.{All}

-- ---- the trees that a contract may have

-- in range, and no expression under `when` or `until` that holds the empty list
abbrev pub Good : (s : Sort) → Tree s → Type 0
Good clause c = InRange c × EmptyFree c
Good expression e = ExpressionInRange e

not_held : (e : Expression) → holds_empty e ≡ false ↔ (¬ Holds e [])
not_held e = (
  λ h p. false≢true (sym h ∙ (empty_iff e).1 p),
  λ n. ⊎_elim (λ h. absurd (n ((empty_iff e).0 h))) (λ h. h) (true_or_false (holds_empty e)),
)

-- a node may stand where its fields are in range, its operands may stand and no expression under it holds the empty list
abbrev pub GoodNode : (k : Kind) → Fields → Trees (line k).operands → Type 0
GoodNode k f ts = Allowed (record_of k f) × All Good (line k).operands ts × (holds_empty_under (line k).completes (node k f ts) ≡ false)

two_clauses : (l r : Clause) → ((InRange l × InRange r) × (EmptyFree l × EmptyFree r)) ↔ All Good (clause ∷ clause ∷ []) (l, (r, tt))
two_clauses l r = (λ g. ((g.0.0, g.1.0), ((g.0.1, g.1.1), tt)), λ h. ((h.0.0, h.1.0.0), (h.0.1, h.1.0.1)))

pub good_node : (k : Kind) (f : Fields) (ts : Trees (line k).operands) → Good (line k).completes (node k f ts) ↔ GoodNode k f ts
unfolding node InRange ExpressionInRange EmptyFree good_fields
good_node duty f ts = (λ g. (g.0, tt, refl), λ h. (h.0, tt))
good_node ban f ts = (λ g. (g.0, tt, refl), λ h. (h.0, tt))
good_node power f ts = (λ g. (g.0, tt, refl), λ h. (h.0, tt))
good_node both f ts = (λ g. (refl, (two_clauses ts.0 ts.1.0).0 g, refl), λ h. (two_clauses ts.0 ts.1.0).1 h.1)
good_node then f ts = (λ g. (refl, (two_clauses ts.0 ts.1.0).0 g, refl), λ h. (two_clauses ts.0 ts.1.0).1 h.1)
good_node repair f ts = (λ g. (refl, (two_clauses ts.0 ts.1.0).0 g, refl), λ h. (two_clauses ts.0 ts.1.0).1 h.1)
good_node repeat f ts = (λ g. (refl, (g, tt), refl), λ h. h.1.0)
good_node when f ts = (
  λ g. (refl, (g.0.0, ((g.0.1, g.1.1), tt)), (not_held ts.0).1 g.1.0),
  λ h. ((h.1.0, h.1.1.0.0), ((not_held ts.0).0 h.2, h.1.1.0.1)),
)
good_node until f ts = (
  λ g. (refl, ((g.0.0, g.1.0), (g.0.1, tt)), (not_held ts.1.0).1 g.1.1),
  λ h. ((h.1.0.0, h.1.1.0), (h.1.0.1, (not_held ts.1.0).0 h.2)),
)
good_node deadline f ts = (λ g. (g.0, tt, refl), λ h. (h.0, tt))
good_node any f ts = (λ g. (g, tt, refl), λ h. h.0)
good_node tries f ts = (λ g. (g, tt, refl), λ h. h.0)
good_node idle f ts = (λ g. (g, tt, refl), λ h. h.0)
good_node succeeds f ts = (λ g. (g, tt, refl), λ h. h.0)
good_node fails f ts = (λ g. (g, tt, refl), λ h. h.0)
good_node seq f ts = (λ g. (refl, (g.0, (g.1, tt)), refl), λ h. (h.1.0, h.1.1.0))
good_node or f ts = (λ g. (refl, (g.0, (g.1, tt)), refl), λ h. (h.1.0, h.1.1.0))
good_node star f ts = (λ g. (refl, (g, tt), refl), λ h. h.1.0)

-- ---- the stack

-- operands put on a stack, the last one on top
abbrev pub onto : (ss : List Sort) → Trees ss → List Operand → List Operand
onto [] ts st = st
onto (s ∷ ss) ts st = onto ss ts.1 (operand s ts.0 ∷ st)

operands_onto : (ss : List Sort) (ts : Trees ss) (st : List Operand) → operands_of ss (onto ss ts st) ≡ some record { trees = ts; rest = st }
unfolding operands_of
operands_onto [] ts st = refl
operands_onto (clause ∷ ss) ts st = rw (operands_onto ss ts.1 (operand clause ts.0 ∷ st))
operands_onto (expression ∷ ss) ts st = rw (operands_onto ss ts.1 (operand expression ts.0 ∷ st))

-- operands and the stack below them, as one stack
abbrev pub stack_of : (ss : List Sort) → Operands ss → List Operand
stack_of ss os = onto ss os.trees os.rest

onto_more : (s : Sort) (ss : List Sort) (ts : Trees ss) (st : List Operand) (os : Operands (s ∷ ss)) → one_more s ts st ≡ some os
    → onto ss ts st ≡ stack_of (s ∷ ss) os
onto_more s ss ts [] os h = cc
onto_more clause ss ts (operand clause c ∷ st) os h =
    let e : record { trees = (c, ts); rest = st } ≡ os = cc in ap (stack_of (clause ∷ ss)) e
onto_more clause ss ts (operand expression e ∷ st) os h = cc
onto_more expression ss ts (operand clause c ∷ st) os h = cc
onto_more expression ss ts (operand expression c ∷ st) os h =
    let e : record { trees = (c, ts); rest = st } ≡ os = cc in ap (stack_of (expression ∷ ss)) e

pub onto_operands : (ss : List Sort) (st : List Operand) (os : Operands ss) → operands_of ss st ≡ some os → st ≡ stack_of ss os
unfolding operands_of
onto_operands [] st os h = let e : record { trees = tt; rest = st } ≡ os = cc in ap (stack_of []) e
onto_operands (s ∷ ss) st os h = go (operands_of ss st) refl (onto_operands ss st)
  where
    go : (o : Option (Operands ss)) → operands_of ss st ≡ o → ((us : Operands ss) → operands_of ss st ≡ some us → st ≡ stack_of ss us)
        → st ≡ stack_of (s ∷ ss) os
    go none e further = let h' = rw e at h in cc
    go (some us) e further = further us e ∙ onto_more s ss us.trees us.rest os (rw e at h)

-- ---- one record

-- a record that passes 2 to 5 makes a node of its kind, its fields and its operands
pub read_node : (k : ℕ) (kind : Kind) (f : Fields) (ts : Trees (line kind).operands) (st : List Operand) (rest : List ℕ)
    → good_fields (line kind) f ≡ true
    → read_record k (onto (line kind).operands ts st) (spell_record record { kind = kind; fields = f } ++ rest)
    ≡ push k (line kind).completes (node kind f ts) st
unfolding read_record marked spell_record
read_node k kind f ts st rest h = rw (kind_number kind, h, operands_onto (line kind).operands ts st)

-- the record at the front of the bytes makes a node, pushed in place of its operands
pub record MakesNode (st : List Operand) (l : List ℕ) (st' : List Operand) : Type 0 where
  pub kind : Kind
  pub fields : Fields
  pub trees : Trees (line kind).operands
  pub rest : List Operand
  pub bytes : take record_bytes l ≡ spell_record (record_of kind fields)
  pub in_range : Allowed (record_of kind fields)
  pub before : st ≡ onto (line kind).operands trees rest
  pub after : st' ≡ operand (line kind).completes (node kind fields trees) ∷ rest
  pub not_empty : holds_empty_under (line kind).completes (node kind fields trees) ≡ false

front_bytes : (l : List ℕ) (kind : Kind) → record_bytes ≤ length l → marked l 0 contract_mark ≡ true → kind_of (kind_at l 0) ≡ some kind
    → take record_bytes l ≡ spell_record record { kind = kind; fields = fields_at l 0 }
unfolding spell_record
front_bytes l kind n m j =
    let at : (i : ℕ) → i < record_bytes → drop i l ≡ get_or l i 0 ∷ drop (suc i) l = λ i b. drop-cons l i 0 (omega arith) in
    rw (take-add 2 4 l, of_marked l 0 _ _ (omega arith) m, at 2 (lit< tt), at 3 (lit< tt), at 4 (lit< tt), at 5 (lit< tt), number_kind (kind_at l 0) kind j)

pub refused_taken : {A : Type 0} {f : Fault} {k : ℕ} {x : A} → refused f k ≡ taken x → ⊥
refused_taken h = let z : ◌≡◌ {A = ℕ} 0 1 = cc in omega arith

-- what is taken has met each requirement and each demand
pub required : {A C : Type 0} (t : Bool) (f : Fault) (k : ℕ) {r : Result A} {x : A} → provided (require t f k) r ≡ taken x
    → (t ≡ true → r ≡ taken x → C) → C
required true f k h go = go refl h
required false f k h go = absurd (refused_taken h)

demanded : {A B C : Type 0} (o : Option A) (f : Fault) (k : ℕ) {g : A → Result B} {x : B} → demand o f k g ≡ taken x
    → ((y : A) → o ≡ some y → g y ≡ taken x → C) → C
demanded none f k h go = absurd (refused_taken h)
demanded (some y) f k h go = go y refl h

pub followed : {A B C : Type 0} (r : Result A) {g : A → Result B} {x : B} → next r g ≡ taken x
    → ((y : A) → r ≡ taken y → g y ≡ taken x → C) → C
followed (refused f k) h go = absurd (refused_taken h)
followed (taken y) h go = go y refl h

pub makes_node : (k : ℕ) (st : List Operand) (l : List ℕ) (st' : List Operand) → record_bytes ≤ length l → read_record k st l ≡ taken st'
    → MakesNode st l st'
unfolding read_record
makes_node k st l st' n h =
    required (marked l 0 contract_mark) BadMark k h λ m h₂.
    demanded (kind_of (kind_at l 0)) UnknownKind k h₂ λ kind j h₃.
    required (good_fields (line kind) (fields_at l 0)) BadField k h₃ λ b h₄.
    demanded (operands_of (line kind).operands st) BadOperands k h₄ λ os o h₅.
    required (not (holds_empty_under (line kind).completes (node kind (fields_at l 0) os.trees))) EmptyList k h₅ λ e h₆.
    let u = used_same kind (fields_at l 0) b in
    record {
      kind = kind;
      fields = fields_at l 0;
      trees = os.trees;
      rest = os.rest;
      bytes = front_bytes l kind n m j ∙ ap (λ (f : Fields). spell_record record { kind = kind; fields = f }) (sym u);
      in_range = ap (good_fields (line kind)) u ∙ b;
      before = onto_operands (line kind).operands st os o;
      after = cc;
      not_empty = not-true _ e;
    }
