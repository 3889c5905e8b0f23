-- The reader takes exactly the bytes that spell a clause, as that clause.
use Prim.Native.Nat.{ℕ, zero, suc, ◌+◌, ◌*◌, ◌/◌, ◌%◌, ◌≤◌}
use native.Mathlib.Nat.{add-zero, add_assoc, zero-add}
use native.Mathlib.Omega.{arith}
use mathlib.Core.Bool.{true, false, ◌&&◌, and-eq-true_iff}
use mathlib.Core.List.{List, [], ◌∷◌, ◌++◌, append-nil, append_assoc}
use mathlib.Core.Logic.{◌↔◌}
use mathlib.Core.Path.{◌≡◌, sym, ap, ◌∙◌}
use lib.Dec.{eqb, ltb, leb}
use lib.ListN.{length, take, drop, length-drop}
use lib.Seq.{take-add, take_all}
use borrow.Author.Tests.{eqb-true, eq-eqb, ltb-true, lt-ltb, leb-true, le-leb}
use Rattle.contract.specs.Meaning.{Clause}
use Rattle.records.specs.declared.Fault.TheVariants.{BadLength}
use Rattle.grammar.specs.Limits.{max_records, record_bytes}
use Rattle.grammar.specs.Table.{Sort, clause, expression, Kind, line}
use Rattle.grammar.specs.Trees.{Tree, Trees, Fields, good_fields, node}
use Rattle.grammar.specs.Spelling.{spell_record, spell, records, Spells, spell_tree, tree_records}
use Rattle.grammar.specs.Reader.{taken, Operand, operand, holds_empty_under, read_record, read_records, just_one, contract_records, good_contract_length, read}
use Rattle.grammar.proofs.Fields.{used, record_of}
use Rattle.grammar.proofs.Spelling.{spell_trees, trees_records, All, on_tree, spell-node, records-node, length-spell, some_records}
use Rattle.grammar.proofs.Nodes.{Good, good_node, onto, read_node, MakesNode, required, followed, makes_node}

-- ---- what has been read is what the stack spells

-- bottom first
abbrev spell_stack : List Operand → List ℕ
spell_stack [] = []
spell_stack (operand s t ∷ st) = spell_stack st ++ spell_tree s t

abbrev GoodStack : List Operand → Type 0
GoodStack [] = Unit {0}
GoodStack (operand s t ∷ st) = Good s t × GoodStack st

spell_onto : (ss : List Sort) (ts : Trees ss) (st : List Operand) → spell_stack (onto ss ts st) ≡ spell_stack st ++ spell_trees ss ts
spell_onto [] ts st = sym (append-nil (spell_stack st))
spell_onto (s ∷ ss) ts st =
    spell_onto ss ts.1 (operand s ts.0 ∷ st) ∙ append_assoc (spell_stack st) (spell_tree s ts.0) (spell_trees ss ts.1)

good_onto : (ss : List Sort) (ts : Trees ss) (st : List Operand) → GoodStack (onto ss ts st) → All Good ss ts × GoodStack st
good_onto [] ts st g = (tt, g)
good_onto (s ∷ ss) ts st g = let h = good_onto ss ts.1 (operand s ts.0 ∷ st) g in ((h.1.0, h.0), h.1.1)

spell_made : (st : List Operand) (l : List ℕ) (st' : List Operand) → MakesNode st l st'
    → spell_stack st' ≡ spell_stack st ++ take record_bytes l
spell_made st l st' c =
    rw (c.after, c.before, c.bytes, spell-node c.kind c.fields c.trees, spell_onto (line c.kind).operands c.trees c.rest)
    (sym (append_assoc (spell_stack c.rest) (spell_trees (line c.kind).operands c.trees) (spell_record (record_of c.kind c.fields))))

good_made : (st : List Operand) (l : List ℕ) (st' : List Operand) → MakesNode st l st' → GoodStack st → GoodStack st'
good_made st l st' c g =
    let h = good_onto (line c.kind).operands c.trees c.rest (rw c.before at g) in
    rw c.after ((good_node c.kind c.fields c.trees).1 (c.in_range, h.0, c.not_empty), h.1)

-- n records, all of them there, leave a stack that spells what the stack spelled before and the records after it
records-spell : (k n : ℕ) (st : List Operand) (l : List ℕ) (st' : List Operand) → record_bytes * n ≤ length l
    → read_records k n st l ≡ taken st' → GoodStack st → (spell_stack st' ≡ spell_stack st ++ take (record_bytes * n) l) × GoodStack st'
unfolding read_records
records-spell k zero st l st' w h g = let e : st ≡ st' = cc in (rw (← e) (sym (append-nil (spell_stack st))), rw e at g)
records-spell k (suc n) st l st' w h g = followed (read_record k st l) h λ st₂ i j.
    let c = makes_node k st l st₂ (omega arith) i in
    let d = records-spell (suc k) n st₂ (drop record_bytes l) st' (rw length-drop (omega arith)) j (good_made st l st₂ c g) in
    let s : record_bytes * suc n ≡ record_bytes + record_bytes * n = omega arith in
    let e = rw (spell_made st l st₂ c, append_assoc (spell_stack st)) at d.0 in
    (rw (s, take-add record_bytes (record_bytes * n) l) e, d.1)

-- ---- the length

pub record WholeRecords (l : List ℕ) : Type 0 where
  pub some_records : 1 ≤ contract_records l
  pub few_records : contract_records l ≤ max_records
  pub whole : length l ≡ record_bytes * contract_records l

pub good_length : (l : List ℕ) → good_contract_length l ≡ true ↔ WholeRecords l
unfolding good_contract_length contract_records
good_length l = (there, back)
  where
    there : good_contract_length l ≡ true → WholeRecords l
    there h =
        let a = (and-eq-true_iff (ltb 0 (length l) && eqb (length l % record_bytes) 0) (leb (length l) (record_bytes * max_records))).0 h in
        let b = (and-eq-true_iff (ltb 0 (length l)) (eqb (length l % record_bytes) 0)).0 a.0 in
        let c = ltb-true 0 (length l) b.0 in
        let d = eqb-true (length l % record_bytes) 0 b.1 in
        let e = leb-true (length l) (record_bytes * max_records) a.1 in
        record { some_records = omega arith; few_records = omega arith; whole = omega arith }

    back : WholeRecords l → good_contract_length l ≡ true
    back w =
        let e : length l ≡ record_bytes * (length l / record_bytes) = w.whole in
        let f = le-leb (length l) (record_bytes * max_records) (omega (arith, w.few_records)) in
        rw (lt-ltb 0 (length l) (omega (arith, w.some_records)), eq-eqb (length l % record_bytes) 0 (omega arith), f)

-- ---- what is taken spells its clause

just_one_lem : (n : ℕ) (st : List Operand) (c : Clause) → just_one n st ≡ taken c → st ≡ operand clause c ∷ []
just_one_lem n [] c h = cc
just_one_lem n (operand clause d ∷ []) c h = cc
just_one_lem n (operand expression e ∷ []) c h = cc
just_one_lem n (operand clause d ∷ p ∷ st) c h = cc
just_one_lem n (operand expression d ∷ p ∷ st) c h = cc

module _ (l : List ℕ) (c : Clause) (h : read l ≡ taken c) where
  read_taken : WholeRecords l × (read_records 0 (contract_records l) [] l ≡ taken (operand clause c ∷ []))
  unfolding read
  read_taken =
      required (good_contract_length l) BadLength 0 h λ g h₂.
      followed (read_records 0 (contract_records l) [] l) h₂ λ st h₃ h₄.
      ((good_length l).0 g, rw (just_one_lem (contract_records l) st c h₄) at h₃)

  taken_stack : (l ≡ spell c) × Good clause c
  taken_stack =
      let w = read_taken.0.whole in
      let s = records-spell 0 (contract_records l) [] l (operand clause c ∷ []) (omega arith) read_taken.1 tt in
      (sym (s.0 ∙ take_all (record_bytes * contract_records l) l (omega arith)), s.1.0)

  pub taken_count : contract_records l ≡ records c
  taken_count = omega (arith, read_taken.0.whole, ap length taken_stack.0, length-spell c)

  pub taken_spells : Spells l c
  taken_spells =
      record {
        bytes = taken_stack.0;
        some_records = some_records c;
        few_records = omega (arith, taken_count, read_taken.0.few_records);
        in_range = taken_stack.1.0;
        empty_free = taken_stack.1.1;
      }

-- ---- what spells a clause is taken as it

-- a tree's bytes put it on the stack
ReadsTree : (s : Sort) → Tree s → Type 0
ReadsTree s t = Good s t → (k n : ℕ) (st : List Operand) (rest : List ℕ)
    → read_records k (tree_records s t + n) st (spell_tree s t ++ rest) ≡ read_records (k + tree_records s t) n (operand s t ∷ st) rest

reads_trees : (ss : List Sort) (ts : Trees ss) → All ReadsTree ss ts → All Good ss ts → (k n : ℕ) (st : List Operand) (rest : List ℕ)
    → read_records k (trees_records ss ts + n) st (spell_trees ss ts ++ rest) ≡ read_records (k + trees_records ss ts) n (onto ss ts st) rest
unfolding ReadsTree
reads_trees [] ts h g k n st rest = rw (zero-add, add-zero)
reads_trees (s ∷ ss) ts h g k n st rest =
    rw (add_assoc, append_assoc, h.0 g.0, reads_trees ss ts.1 h.1 g.1, add_assoc)

read_next : (kind : Kind) (f : Fields) (ts : Trees (line kind).operands) → good_fields (line kind) f ≡ true
    → holds_empty_under (line kind).completes (node kind f ts) ≡ false → (k n : ℕ) (st : List Operand) (rest : List ℕ)
    → read_records k (suc n) (onto (line kind).operands ts st) (spell_record record { kind = kind; fields = f } ++ rest)
    ≡ read_records (suc k) n (operand (line kind).completes (node kind f ts) ∷ st) rest
unfolding read_records spell_record
read_next kind f ts g e k n st rest = rw (read_node k kind f ts st rest g, e)

reads-node : (k : Kind) (f : Fields) → used k f ≡ f → (ts : Trees (line k).operands) → All ReadsTree (line k).operands ts
    → ReadsTree (line k).completes (node k f ts)
unfolding ReadsTree
reads-node kind f u ts h good k n st rest =
    let g = (good_node kind f ts).0 good in
    let m : ℕ = trees_records (line kind).operands ts in
    let i : m + 1 + n ≡ m + suc n = omega arith in
    let j : k + (m + 1) ≡ suc (k + m) = omega arith in
    let bytes = spell_record record { kind = kind; fields = f } in
    let e : spell_record (record_of kind f) ≡ bytes = ap (λ (f : Fields). spell_record record { kind = kind; fields = f }) u in
    rw (records-node kind f ts, spell-node kind f ts, e, i, j, append_assoc (spell_trees (line kind).operands ts) bytes rest)
    (reads_trees (line kind).operands ts h g.1 k (suc n) st (bytes ++ rest)
    ∙ read_next kind f ts (sym (ap (good_fields (line kind)) u) ∙ g.0) g.2 (k + m) n st rest)

reads_tree : (s : Sort) (t : Tree s) → ReadsTree s t
reads_tree = on_tree ReadsTree reads-node

pub spelled_count : (c : Clause) → contract_records (spell c) ≡ records c
unfolding contract_records
spelled_count c = rw length-spell (omega arith)

pub spells_taken : (l : List ℕ) (c : Clause) → Spells l c → read l ≡ taken c
unfolding read read_records ReadsTree
spells_taken l c s =
    let count = spelled_count c in
    let w : WholeRecords (spell c) =
    record { some_records = rw count s.some_records; few_records = rw count s.few_records; whole = rw count (length-spell c) } in
    let stack : read_records 0 (records c) [] (spell c) ≡ taken (operand clause c ∷ []) =
    rw (add-zero, append-nil) at (reads_tree clause c (s.in_range, s.empty_free) 0 0 [] []) in
    rw (s.bytes, (good_length (spell c)).1 w, count, stack)

pub taken_iff : (l : List ℕ) (c : Clause) → (read l ≡ taken c) ↔ Spells l c
taken_iff l c = (taken_spells l c, spells_taken l c)

-- a contract that is taken spells exactly one clause
pub spells_once : {l : List ℕ} {c d : Clause} → Spells l c → Spells l d → c ≡ d
spells_once {l} {c} {d} s t = let h = spells_taken l c s in let i = spells_taken l d t in cc
