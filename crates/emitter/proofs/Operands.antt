-- The end of a contract's beginning: the last record's bytes are those of the tree's own record, and the records before it end with its
-- operands.
use Prim.Native.Nat.{ℕ, ◌+◌, ◌*◌, ◌-◌, ◌≤◌, ◌<◌}
use native.Mathlib.Omega.{arith}
use mathlib.Core.List.{List, [], ◌∷◌, ◌++◌, append_assoc, append-nil}
use mathlib.Core.Path.{◌≡◌, refl, sym, ◌∙◌}
use lib.ListN.{length, take, get_or, length-append}
use lib.Seq.{take_at, take-take, get_or-take, get_or-append-add, length-take-le}
use Rattle.grammar.specs.Limits.{record_bytes}
use Rattle.grammar.specs.declared.Sort.{Sort}
use Rattle.grammar.specs.declared.Kind.{Kind}
use Rattle.grammar.specs.Table.{line}
use Rattle.grammar.specs.Trees.{Tree, Trees, Fields, Record, node}
use Rattle.grammar.specs.Spelling.{spell_record, spell_tree, tree_records}
use Rattle.reader.proofs.Codes.{few_operands}
use Rattle.grammar.proofs.Fields.{record_of}
use Rattle.grammar.proofs.Spelling.{spell_trees, trees_records, spell-node, records-node, length_tree, length_spell_trees, on_tree}
use Rattle.emitter.specs.declared.RecordBody.{RecordBody}
use Rattle.emitter.specs.Blocks.{last_record, EndsWith}

-- ---- every tree is a node

pub data View : (s : Sort) → Tree s → Type 0 where
  view : (k : Kind) (f : Fields) (ts : Trees (line k).operands) → View (line k).completes (node k f ts)

pub seen : (s : Sort) (t : Tree s) → View s t
seen = on_tree View (λ k f u ts h. view k f ts)

-- ---- the last record and its operands

-- the bytes of a record after its mark
abbrev pub body_of : Record → RecordBody
body_of r = record { kind = (line r.kind).number; party = r.fields.party; action = r.fields.action; last = r.fields.last }

-- the last of the first n records is this one
pub record Last (contract : List ℕ) (n : ℕ) (r : Record) : Type 0 where
  pub some_record : 1 ≤ n
  pub is : last_record contract n ≡ body_of r

-- the first n records are m records and then those that spell these trees, of which there are at most two
abbrev pub OperandsEnd : (contract : List ℕ) (n m : ℕ) (ss : List Sort) → Trees ss → Type 0
OperandsEnd contract n m [] ts = n ≡ m
OperandsEnd contract n m (s ∷ []) ts = EndsWith contract n m s ts.0
OperandsEnd contract n m (s ∷ s' ∷ ss) ts =
    EndsWith contract n (m + tree_records s ts.0) s' ts.1.0 × EndsWith contract (m + tree_records s ts.0) m s ts.0

-- the first n records are those before the operands, the operands', and the last one
record Shape (contract : List ℕ) (n m : ℕ) (ss : List Sort) (ts : Trees ss) (last : List ℕ) : Type 0 where
  whole : record_bytes * n ≤ length contract
  count : n ≡ m + trees_records ss ts + 1
  spelled : take (record_bytes * n) contract ≡ take (record_bytes * m) contract ++ spell_trees ss ts ++ last
  before : length (take (record_bytes * m) contract) ≡ record_bytes * m

module _ (contract : List ℕ) where
  shape : (n m : ℕ) (k : Kind) (f : Fields) (ts : Trees (line k).operands) → EndsWith contract n m (line k).completes (node k f ts)
      → Shape contract n m (line k).operands ts (spell_record (record_of k f))
  shape n m k f ts e =
      let c = rw records-node at e.count in
      let w = e.whole in
      record {
        whole = w;
        count = omega arith;
        spelled = rw (spell-node, ← append_assoc) at e.spelled;
        before = length-take-le (record_bytes * m) contract (omega arith);
      }

  -- a beginning of whole records
  cut : (n j : ℕ) (xs ys : List ℕ) → take (record_bytes * n) contract ≡ xs ++ ys → length xs ≡ record_bytes * j → j ≤ n
      → take (record_bytes * j) contract ≡ xs
  cut n j xs ys e l h =
      sym (take-take (record_bytes * j) (record_bytes * n) contract (omega arith)) ∙ rw e (take_at xs ys (record_bytes * j) l)

  -- a byte behind a beginning
  byte_at : (n at : ℕ) (xs ys : List ℕ) (i : ℕ) → take (record_bytes * n) contract ≡ xs ++ ys → length xs ≡ at → at + i < record_bytes * n
      → get_or contract (at + i) 0 ≡ get_or ys i 0
  byte_at n at xs ys i e l h =
      sym (get_or-take (record_bytes * n) contract (at + i) 0 h) ∙ rw (e, ← l) (get_or-append-add xs ys i 0)

  module _ (n m : ℕ) (k : Kind) (f : Fields) (ts : Trees (line k).operands) (e : EndsWith contract n m (line k).completes (node k f ts)) where
    abbrev front : List ℕ
    front = take (record_bytes * m) contract ++ spell_trees (line k).operands ts

    length_front : length front ≡ record_bytes * (n - 1)
    length_front =
        let s = shape n m k f ts e in
        let c = s.count in
        rw (length-append, s.before, length_spell_trees) (omega arith)

    pub ends_last : Last contract n (record_of k f)
    unfolding spell_record
    ends_last =
        let s = shape n m k f ts e in
        let c = s.count in
        let byte : (i : ℕ) → i < record_bytes → get_or contract (record_bytes * (n - 1) + i) 0 ≡ get_or (spell_record (record_of k f)) i 0 =
        λ i h. byte_at n (record_bytes * (n - 1)) front (spell_record (record_of k f)) i s.spelled length_front (omega arith) in
        record {
          some_record = omega arith;
          is = rw (byte 2 (omega arith), byte 3 (omega arith), byte 4 (omega arith), byte 5 (omega arith));
        }

    pub ends_operands : OperandsEnd contract (n - 1) m (line k).operands ts
    ends_operands =
        let s = shape n m k f ts e in
        let c = s.count in
        operands s.whole s.before (line k).operands ts (few_operands k) (omega arith) (cut n (n - 1) front (spell_record (record_of k f)) s.spelled length_front (omega arith))
      where
        operands : record_bytes * n ≤ length contract → length (take (record_bytes * m) contract) ≡ record_bytes * m
            → (ss : List Sort) (ts : Trees ss) → length ss ≤ 2 → n - 1 ≡ m + trees_records ss ts
            → take (record_bytes * (n - 1)) contract ≡ take (record_bytes * m) contract ++ spell_trees ss ts → OperandsEnd contract (n - 1) m ss ts
        operands w l [] ts h c j = omega arith
        operands w l (s ∷ []) ts h c j = record { whole = omega arith; count = omega arith; spelled = rw append-nil at j }
        operands w l (s ∷ s' ∷ []) ts h c j =
            let before = take (record_bytes * m) contract ++ spell_tree s ts.0 in
            let i : take (record_bytes * (n - 1)) contract ≡ before ++ spell_tree s' ts.1.0 = rw (append-nil, ← append_assoc) at j in
            let r = length_tree s ts.0 in
            let g = cut (n - 1) (m + tree_records s ts.0) before (spell_tree s' ts.1.0) i (rw length-append (omega arith)) (omega arith) in (
              record { whole = omega arith; count = omega arith; spelled = rw g i },
              record { whole = omega arith; count = refl; spelled = g },
            )
        operands w l (s ∷ s' ∷ s'' ∷ ss) ts h c j = absurd (omega arith)
