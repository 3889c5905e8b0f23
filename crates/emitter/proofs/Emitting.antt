-- What the recursive writer leaves: a record's own rows round the rows of its operands are the tree's rows, and its block is the tree's.
use Prim.Native.Nat.{ℕ, ◌+◌, ◌-◌, ◌≤◌}
use native.Mathlib.Omega.{arith}
use mathlib.Core.List.{List, [], ◌∷◌, map, map-append}
use mathlib.Core.Option.{some}
use mathlib.Core.Path.{◌≡◌, sym, ap, ◌∙◌}
use lib.ListN.{length, length-append, length-map}
use Rattle.grammar.specs.declared.Sort.{Sort}
use Rattle.grammar.specs.declared.Kind.{Kind}
use Rattle.grammar.specs.Table.{line, kind_of}
use Rattle.grammar.specs.Trees.{Tree, Trees, Fields, Record, node}
use Rattle.grammar.specs.Spelling.{tree_records}
use Rattle.reader.specs.Codes.{operand_count}
use Rattle.grammar.proofs.Table.{kind_number}
use Rattle.reader.proofs.Codes.{few_operands}
use Rattle.grammar.proofs.Fields.{record_of}
use Rattle.image.specs.Widths.{later_periods, inside}
use Rattle.emitter.specs.declared.RecordBody.{RecordBody}
use Rattle.emitter.specs.declared.Block.{Block}
use Rattle.emitter.specs.declared.Wires.{Wires}
use Rattle.emitter.specs.Rows.{numbers_of, written_rows}
use Rattle.emitter.specs.Plans.{RowPlan, plan_of}
use Rattle.emitter.specs.Blocks.{last_record, record_from, no_block, window_block, window_from, meant_by, record_written, record_block, wires_of, tree_rows, after_tree, block_of, EndsWith, Emitted}
use Rattle.image.proofs.Sizes.{after_window_lem, length_window}
use Rattle.emitter.proofs.Writing.{written_after, written_around, length-named}
use Rattle.emitter.proofs.Plans.{left_block, right_block, operand_rows, rows-node, block_node, after_tree_lem}
use Rattle.emitter.proofs.Tables.{inside_is}
use Rattle.emitter.proofs.Operands.{View, view, seen, body_of, Last, ends_last, OperandsEnd, ends_operands}

-- ---- the operands' rows

-- the rows of these operands, or of a window of d later periods, with m records before them, are written from row b on, and these are their blocks
pub record Placed (image : List ℕ) (b S : ℕ) (w : Wires) (later : List ℕ) (left right : Block) (d m : ℕ) (ss : List Sort) (ts : Trees ss) : Type 0 where
  pub rows_are : later ≡ written_rows image b (map numbers_of (operand_rows d ss ts b S w))
  pub left_is : left ≡ left_block d ss ts m b S
  pub right_is : right ≡ right_block d ss ts m b w.start

-- so it is with whichever operands, as many as `count`, the first `last` records end with
pub record Written (contract : List ℕ) (last count d : ℕ) (image : List ℕ) (b S : ℕ) (w : Wires) (later : List ℕ) (left right : Block) : Type 0 where
  pub placed : (m : ℕ) (ss : List Sort) (ts : Trees ss) → length ss ≡ count → OperandsEnd contract last m ss ts
      → Placed image b S w later left right d m ss ts

module _ {contract : List ℕ} {last d : ℕ} {image : List ℕ} {b S : ℕ} {w : Wires} where
  pub written_no : {later : List ℕ} {window : Block} → later ≡ written_rows image b (map numbers_of (window_from d b)) → window ≡ window_block last d b
      → Written contract last 0 d image b S w later window window
  written_no {later} {window} g i = record { placed = each }
    where
      each : (m : ℕ) (ss : List Sort) (ts : Trees ss) → length ss ≡ 0 → OperandsEnd contract last m ss ts
          → Placed image b S w later window window d m ss ts
      each m [] ts h e = record { rows_are = g; left_is = rw (i, e); right_is = rw (i, e) }
      each m (s ∷ []) ts h e = absurd (omega arith)
      each m (s ∷ s' ∷ ss) ts h e = absurd (omega arith)

  pub written_one : {later : List ℕ} {r : Block} → Emitted contract last image b w.start w.go later r
      → Written contract last 1 d image b S w later (no_block r.before r.next) r
  written_one {later} {r} g = record { placed = each }
    where
      each : (m : ℕ) (ss : List Sort) (ts : Trees ss) → length ss ≡ 1 → OperandsEnd contract last m ss ts
          → Placed image b S w later (no_block r.before r.next) r d m ss ts
      each m [] ts h e = absurd (omega arith)
      each m (s ∷ []) ts h e =
          let is = g.tree_is m s ts.0 e in
          record { rows_are = is.0; left_is = rw is.1; right_is = is.1 }
      each m (s ∷ s' ∷ ss) ts h e = absurd (omega arith)

  pub written_two : {later latest : List ℕ} {r l : Block} → Emitted contract last image b w.start w.go later r
      → Emitted contract r.before later r.next S w.keep latest l → Written contract last 2 d image b S w latest l r
  written_two {later} {latest} {r} {l} g h = record { placed = each }
    where
      each : (m : ℕ) (ss : List Sort) (ts : Trees ss) → length ss ≡ 2 → OperandsEnd contract last m ss ts → Placed image b S w latest l r d m ss ts
      each m [] ts i e = absurd (omega arith)
      each m (s ∷ []) ts i e = absurd (omega arith)
      each m (s ∷ s' ∷ []) ts i e =
          let is = g.tree_is (m + tree_records s ts.0) s' ts.1.0 e.0 in
          let ends : EndsWith contract r.before m s ts.0 = rw is.1 e.1 in
          let n : r.next ≡ after_tree s' ts.1.0 b = rw is.1 in
          let left = h.tree_is m s ts.0 ends in
          record {
            rows_are =
                left.0
                ∙ rw (is.0, n, map-append)
                (written_after image b (after_tree s' ts.1.0 b) _ _ (rw length-map (after_tree_lem s' ts.1.0 b w.start w.go)));
            left_is = rw (← n) left.1;
            right_is = is.1;
          }
      each m (s ∷ s' ∷ s'' ∷ ss) ts i e = absurd (omega arith)

-- ---- what the program knows of the last record

-- its bytes, its plan and how many operands it has
pub record RecordRead (contract : List ℕ) (n : ℕ) (r : RecordBody) (count : ℕ) (p : RowPlan) : Type 0 where
  pub body_is : r ≡ last_record contract n
  pub plan_is : (k : Kind) → kind_of r.kind ≡ some k → p ≡ plan_of (record_from k r)
  pub count_is : count ≡ operand_count (kind_of r.kind)

-- the same where it is this record
pub record Known (own : Record) (r : RecordBody) (count : ℕ) (p : RowPlan) : Type 0 where
  pub body_is : r ≡ body_of own
  pub plan_is : p ≡ plan_of own
  pub count_is : length (line own.kind).operands ≡ count

-- the operands' rows reach to the row after the left one's
next_left : (d : ℕ) (ss : List Sort) (ts : Trees ss) (m b S : ℕ) (w : Wires) → length ss ≤ 2
    → (left_block d ss ts m b S).next ≡ b + length (operand_rows d ss ts b S w)
next_left d [] ts m b S w h = rw (after_window_lem d b, length_window d) (omega arith)
next_left d (s ∷ []) ts m b S w h = after_tree_lem s ts.0 b w.start w.go
next_left d (s ∷ s' ∷ []) ts m b S w h =
    rw length-append
    (omega (arith, after_tree_lem s' ts.1.0 b w.start w.go, after_tree_lem s ts.0 (after_tree s' ts.1.0 b) S w.keep))
next_left d (s ∷ s' ∷ s'' ∷ ss) ts m b S w h = absurd (omega arith)

module _ {contract : List ℕ} {n : ℕ} {r : RecordBody} {count : ℕ} {p : RowPlan} (reads : RecordRead contract n r count p) where
  pub known : (own : Record) → Last contract n own → Known own r count p
  known own l =
      let e : r ≡ body_of own = reads.body_is ∙ l.is in
      let j : kind_of r.kind ≡ some own.kind = rw e (kind_number own.kind) in
      record {
        body_is = e;
        plan_is = reads.plan_is own.kind j ∙ ap (λ (r : RecordBody). plan_of (record_from own.kind r)) e;
        count_is = rw (reads.count_is, j);
      }

  -- ---- the record's own rows round its operands' rows are the tree's

  module _ (b S K : ℕ) {image later latest : List ℕ} {left right block : Block}
      (w : Written contract (n - 1) count (r.last - 1) image (b + length p.before) S (wires_of p b S K) later left right)
      (rows : latest ≡ record_written later (meant_by b S K left right r.party r.action) p b left.next)
      (gives : block ≡ record_block (meant_by b S K left right r.party r.action) p r.kind r.party left right) where
    module _ (m : ℕ) (k : Kind) (f : Fields) (ts : Trees (line k).operands) (e : EndsWith contract n m (line k).completes (node k f ts)) where
      abbrev own : Record
      own = record_of k f

      placed : Placed image (inside k b) S (wires_of (plan_of own) b S K) later left right (later_periods own) m (line k).operands ts
      placed =
          let i = known own (ends_last contract n m k f ts e) in
          let o = ends_operands contract n m k f ts e in
          let d = w.placed m (line k).operands ts i.count_is o in
          rw (i.plan_is, i.body_is, inside_is own b) at d

      node-rows : latest ≡ written_rows image b (map numbers_of (tree_rows (line k).completes (node k f ts) b S K))
      unfolding record_written
      node-rows =
          let i = known own (ends_last contract n m k f ts e) in
          let d = placed in
          rw (rows, i.plan_is, i.body_is, d.rows_are, d.left_is, d.right_is, rows-node k f ts m b S K)
          (written_around image b (inside k b) _ _ _ _ (rw length-named (sym (inside_is own b)))
          (rw length-map (next_left (later_periods own) (line k).operands ts m (inside k b) S (wires_of (plan_of own) b S K) (few_operands k))))

      node_block : block ≡ block_of (line k).completes (node k f ts) m b S
      node_block =
          let i = known own (ends_last contract n m k f ts e) in
          let d = placed in
          rw (gives, i.plan_is, i.body_is, d.left_is, d.right_is) (sym (block_node k f ts m b S K))

    pub emitted : Emitted contract n image b S K latest block
    emitted = record { tree_is = λ m s t e. at m s t (seen s t) e }
      where
        at : (m : ℕ) (s : Sort) (t : Tree s) → View s t → EndsWith contract n m s t
            → (latest ≡ written_rows image b (map numbers_of (tree_rows s t b S K))) × (block ≡ block_of s t m b S)
        at m s t (view k f ts) e = (node-rows m k f ts e, node_block m k f ts e)
