-- Trees kind by kind: each is the node of its last record's kind, fields and operands, so one law over the kind does for clauses and
-- expressions. With it: the bytes of a node are its operands' and then its record, and a tree has six bytes for each of its records.
use Prim.Native.Nat.{ℕ, ◌+◌, ◌*◌, ◌≤◌}
use native.Mathlib.Omega.{arith}
use mathlib.Core.List.{List, [], ◌∷◌, ◌++◌, append-nil}
use mathlib.Core.Path.{◌≡◌, refl}
use lib.ListN.{length, length-append}
use Rattle.periods.specs.declared.Party.{Party}
use Rattle.periods.specs.declared.Party.TheVariants.{One as party1, Two as party2}
use Rattle.contract.specs.Expressions as E
use Rattle.contract.specs.Expressions.{Expression}
use Rattle.contract.specs.Meaning as M
use Rattle.contract.specs.Meaning.{Clause}
use Rattle.grammar.specs.Limits.{record_bytes}
use Rattle.grammar.specs.Table.{Sort, clause, expression, Kind, duty, ban, power, both, then, repair, repeat, when, until, deadline, any, tries, idle, succeeds, fails, seq, or, star, line}
use Rattle.grammar.specs.Trees.{Tree, Trees, Fields, Record, node}
use Rattle.grammar.specs.Spelling.{spell_record, spell_expression, spell, expression_records, records, spell_tree, tree_records}
use Rattle.grammar.proofs.Fields.{used, record_of}

-- ---- of any sort

abbrev pub spell_trees : (ss : List Sort) → Trees ss → List ℕ
spell_trees [] ts = []
spell_trees (s ∷ ss) ts = spell_tree s ts.0 ++ spell_trees ss ts.1

abbrev pub trees_records : (ss : List Sort) → Trees ss → ℕ
trees_records [] ts = 0
trees_records (s ∷ ss) ts = tree_records s ts.0 + trees_records ss ts.1

-- each of these trees has the property
abbrev pub All : ((s : Sort) → Tree s → Type 0) → (ss : List Sort) → Trees ss → Type 0
All P [] ts = Unit {0}
All P (s ∷ ss) ts = P s ts.0 × All P ss ts.1

-- ---- a record

length_record : (r : Record) → length (spell_record r) ≡ record_bytes
unfolding spell_record
length_record r = refl

-- ---- every tree is a node, of fields that its kind uses

abbrev with_last : (party action last : ℕ) → Fields
with_last p a z = record { party = p; action = a; last = z }

abbrev of : (party action : ℕ) → Fields
of p a = with_last p a 0

module _ (P : (s : Sort) → Tree s → Type 0)
    (step : (k : Kind) (f : Fields) → used k f ≡ f → (ts : Trees (line k).operands) → All P (line k).operands ts
    → P (line k).completes (node k f ts)) where
  on_atom : (x : E.Atom) → P expression (E.atom x)
  unfolding node
  on_atom E.any = step any (of 0 0) refl tt tt
  on_atom (E.tries party1 a) = step tries (of 1 a) refl tt tt
  on_atom (E.tries party2 a) = step tries (of 2 a) refl tt tt
  on_atom (E.idle party1 a) = step idle (of 1 a) refl tt tt
  on_atom (E.idle party2 a) = step idle (of 2 a) refl tt tt
  on_atom (E.succeeds a) = step succeeds (of 0 a) refl tt tt
  on_atom (E.fails a) = step fails (of 0 a) refl tt tt

  on_expression : (e : Expression) → P expression e
  unfolding node
  on_expression (E.atom x) = on_atom x
  on_expression (E.seq l r) = step seq (of 0 0) refl (l, (r, tt)) (on_expression l, (on_expression r, tt))
  on_expression (E.or l r) = step or (of 0 0) refl (l, (r, tt)) (on_expression l, (on_expression r, tt))
  on_expression (E.star e) = step star (of 0 0) refl (e, tt) (on_expression e, tt)

  on_literal : (l : M.Literal) (a : ℕ) → P clause (M.literal l a)
  unfolding node
  on_literal (M.duty (M.only party1)) a = step duty (of 1 a) refl tt tt
  on_literal (M.duty (M.only party2)) a = step duty (of 2 a) refl tt tt
  on_literal (M.duty M.both_parties) a = step duty (of 3 a) refl tt tt
  on_literal (M.ban party1) a = step ban (of 1 a) refl tt tt
  on_literal (M.ban party2) a = step ban (of 2 a) refl tt tt
  on_literal (M.power party1) a = step power (of 1 a) refl tt tt
  on_literal (M.power party2) a = step power (of 2 a) refl tt tt

  on_deadline : (p : Party) (a d : ℕ) → P clause (M.deadline p a d)
  unfolding node
  on_deadline party1 a d = step deadline (with_last 1 a d) refl tt tt
  on_deadline party2 a d = step deadline (with_last 2 a d) refl tt tt

  on_clause : (c : Clause) → P clause c
  unfolding node
  on_clause (M.literal l a) = on_literal l a
  on_clause (M.deadline p a d) = on_deadline p a d
  on_clause (M.both l r) = step both (of 0 0) refl (l, (r, tt)) (on_clause l, (on_clause r, tt))
  on_clause (M.then l r) = step then (of 0 0) refl (l, (r, tt)) (on_clause l, (on_clause r, tt))
  on_clause (M.repair l r) = step repair (of 0 0) refl (l, (r, tt)) (on_clause l, (on_clause r, tt))
  on_clause (M.repeat c) = step repeat (of 0 0) refl (c, tt) (on_clause c, tt)
  on_clause (M.when e c) = step when (of 0 0) refl (e, (c, tt)) (on_expression e, (on_clause c, tt))
  on_clause (M.until c e) = step until (of 0 0) refl (c, (e, tt)) (on_clause c, (on_expression e, tt))

  pub on_tree : (s : Sort) (t : Tree s) → P s t
  on_tree clause c = on_clause c
  on_tree expression e = on_expression e

-- ---- a node's bytes and records

pub spell-node : (k : Kind) (f : Fields) (ts : Trees (line k).operands)
    → spell_tree (line k).completes (node k f ts) ≡ spell_trees (line k).operands ts ++ spell_record (record_of k f)
unfolding node spell spell_expression
spell-node duty f ts = refl
spell-node ban f ts = refl
spell-node power f ts = refl
spell-node both f ts = rw append-nil
spell-node then f ts = rw append-nil
spell-node repair f ts = rw append-nil
spell-node repeat f ts = rw append-nil
spell-node when f ts = rw append-nil
spell-node until f ts = rw append-nil
spell-node deadline f ts = refl
spell-node any f ts = refl
spell-node tries f ts = refl
spell-node idle f ts = refl
spell-node succeeds f ts = refl
spell-node fails f ts = refl
spell-node seq f ts = rw append-nil
spell-node or f ts = rw append-nil
spell-node star f ts = rw append-nil

pub records-node : (k : Kind) (f : Fields) (ts : Trees (line k).operands)
    → tree_records (line k).completes (node k f ts) ≡ trees_records (line k).operands ts + 1
unfolding node records expression_records
records-node duty f ts = refl
records-node ban f ts = refl
records-node power f ts = refl
records-node both f ts = omega arith
records-node then f ts = omega arith
records-node repair f ts = omega arith
records-node repeat f ts = omega arith
records-node when f ts = omega arith
records-node until f ts = omega arith
records-node deadline f ts = refl
records-node any f ts = refl
records-node tries f ts = refl
records-node idle f ts = refl
records-node succeeds f ts = refl
records-node fails f ts = refl
records-node seq f ts = omega arith
records-node or f ts = omega arith
records-node star f ts = omega arith

-- ---- lengths and counts

Measured : (s : Sort) → Tree s → Type 0
Measured s t = length (spell_tree s t) ≡ record_bytes * tree_records s t

length_trees : (ss : List Sort) (ts : Trees ss) → All Measured ss ts → length (spell_trees ss ts) ≡ record_bytes * trees_records ss ts
unfolding Measured
length_trees [] ts h = refl
length_trees (s ∷ ss) ts h = rw (length-append, h.0, length_trees ss ts.1 h.1) (omega arith)

pub length_tree : (s : Sort) (t : Tree s) → length (spell_tree s t) ≡ record_bytes * tree_records s t
unfolding Measured
length_tree =
    on_tree Measured (λ k f u ts h. rw (spell-node, records-node, length-append, length_trees (line k).operands ts h, length_record) (omega arith))

pub length_spell_trees : (ss : List Sort) (ts : Trees ss) → length (spell_trees ss ts) ≡ record_bytes * trees_records ss ts
length_spell_trees [] ts = refl
length_spell_trees (s ∷ ss) ts = rw (length-append, length_tree, length_spell_trees ss ts.1) (omega arith)

pub length-spell : (c : Clause) → length (spell c) ≡ record_bytes * records c
length-spell = length_tree clause

pub some_records : (c : Clause) → 1 ≤ records c
some_records = on_tree (λ s t. 1 ≤ tree_records s t) (λ k f u ts h. rw records-node (omega arith)) clause
