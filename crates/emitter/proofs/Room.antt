-- What the recursive writer may do: there is room for the rows of a record and of its operands, and every row that they name is a small number.
use Prim.Native.Nat.{ℕ, ◌+◌, ◌*◌, ◌-◌, ◌≤◌, ◌<◌}
use native.Mathlib.Omega.{arith}
use mathlib.Core.Bool.{Bool, true, false, not, ◌||◌, cond}
use mathlib.Core.List.{List, [], ◌∷◌}
use mathlib.Core.Option.{some}
use mathlib.Core.Path.{◌≡◌, refl, sym, ap, ◌∙◌}
use borrow.Author.Tests.{leb-true}
use lib.Dec.{leb}
use lib.ListN.{length}
use Rattle.layout.specs.Limits.{row_bytes, max_rows}
use Rattle.grammar.specs.Limits.{record_bytes}
use Rattle.grammar.specs.declared.Sort.{Sort}
use Rattle.grammar.specs.declared.Sort.TheVariants.{Clause as clause, Expression as expression}
use Rattle.grammar.specs.declared.Kind.{Kind}
use Rattle.grammar.specs.Table.{line, kind_of}
use Rattle.grammar.specs.Trees.{Tree, Trees, Fields}
use Rattle.grammar.specs.Spelling.{tree_records}
use Rattle.grammar.proofs.Table.{of_all, kind_number}
use Rattle.grammar.proofs.Fields.{uses, record_of}
use Rattle.image.specs.Widths.{width, later_periods, never_row}
use Rattle.image.proofs.Sizes.{after_window_lem, inside_expression, inside_clause, inside_window}
use Rattle.emitter.specs.declared.RecordBody.{RecordBody}
use Rattle.emitter.specs.declared.Block.{Block}
use Rattle.emitter.specs.declared.Wires.{Wires}
use Rattle.emitter.specs.Rows.{Name}
use Rattle.emitter.specs.Plans.{RowPlan, plan_of}
use Rattle.emitter.specs.Blocks.{record_from, record_written, record_block, wires_of, after_tree, block_of, EndsWith, Emitted}
use Rattle.emitter.specs.Premises.{RecordRows, OwnRows, WindowRoom, Emits}
use Rattle.emitter.proofs.Plans.{left_block, right_block, after_node}
use Rattle.emitter.proofs.Tables.{before_is, inside_is, WiresInside, wires_inside}
use Rattle.emitter.proofs.Operands.{View, view, seen, ends_last, OperandsEnd, ends_operands}
use Rattle.emitter.proofs.Emitting.{Written, RecordRead, Known, known}

-- ---- the rows that a block gives out

-- the rows that a block gives out are below n
record Given (r : Block) (n : ℕ) : Type 0 where
  sat_is : r.sat < n
  one_is : r.one < n
  two_is : r.two < n

-- a tree's rows are those up to the row after it, and what its block gives out stands before that
block_inside : (s : Sort) (t : Tree s) (m b S : ℕ) → S < b → (b ≤ after_tree s t b) × Given (block_of s t m b S) (after_tree s t b)
block_inside clause c m b S h = let i = inside_clause c b (omega arith) in omega arith
block_inside expression e m b S h = let i = inside_expression e b S h in omega arith

-- ---- there is room for a window's rows, or the operands'

-- a record with a window of several periods has two rows before those of the later ones
unmet_row : (k : Kind) (f : Fields) → 1 ≤ later_periods (record_of k f) → 2 ≤ (width k).before
unmet_row k f = each (uses (line k).last) (of_all (λ J. not (uses (line J).last) || leb 2 (width J).before) refl k)
  where
    each : (u : Bool) → (not u || leb 2 (width k).before) ≡ true → 1 ≤ cond u f.last 0 - 1 → 2 ≤ (width k).before
    each true e h = leb-true 2 (width k).before e
    each false e h = absurd (omega arith)

record Room (contract : List ℕ) (last : ℕ) (image : List ℕ) (b S : ℕ) (w : Wires) (d m : ℕ) (ss : List Sort) (ts : Trees ss) : Type 0 where
  ends : OperandsEnd contract last m ss ts
  room : row_bytes * (left_block d ss ts m b S).next ≤ length image
  few : (left_block d ss ts m b S).next ≤ max_rows
  begins : S < b
  wires : WiresInside w b

-- the rows that the blocks give out stand before the row after the left operand's
record Ordered (b S : ℕ) (w : Wires) (d m : ℕ) (ss : List Sort) (ts : Trees ss) : Type 0 where
  not_before : b ≤ (left_block d ss ts m b S).next
  left_given : Given (left_block d ss ts m b S) (left_block d ss ts m b S).next
  right_given : Given (right_block d ss ts m b w.start) (left_block d ss ts m b S).next

module _ {contract : List ℕ} {last : ℕ} {image : List ℕ} {b S : ℕ} {w : Wires} {d : ℕ} where
  ordered : (m : ℕ) (ss : List Sort) (ts : Trees ss) → Room contract last image b S w d m ss ts → Ordered b S w d m ss ts
  ordered m [] ts r =
      let h = r.begins in
      let n = after_window_lem d b in
      let earlier = inside_window d 1 never_row b (omega arith) (omega arith) in
      let missed = inside_window d 2 (b - 1) b (omega arith) (omega arith) in
      omega arith
  ordered m (s ∷ []) ts r =
      let t = r.wires in
      let i = block_inside s ts.0 m b w.start t.start_is in
      omega arith
  ordered m (s ∷ s' ∷ ss) ts r =
      let t = r.wires in
      let h = r.begins in
      let i = block_inside s' ts.1.0 (m + tree_records s ts.0) b w.start t.start_is in
      let j = block_inside s ts.0 m (after_tree s' ts.1.0 b) S (omega arith) in
      omega arith

  right_room : (m : ℕ) (ss : List Sort) (ts : Trees ss) → Room contract last image b S w d m ss ts → ¬ (length ss ≡ 0)
      → Emits contract last image b w.start w.go
  right_room m [] ts r h = absurd (h refl)
  right_room m (s ∷ []) ts r h =
      let t = r.wires in
      record {
        before = m;
        sort = s;
        tree = ts.0;
        ends = r.ends;
        room = r.room;
        few = r.few;
        begins = t.start_is;
        goes_on = t.go_is;
      }
  right_room m (s ∷ s' ∷ ss) ts r h =
      let t = r.wires in
      let i = block_inside s' ts.1.0 (m + tree_records s ts.0) b w.start t.start_is in
      let b' = r.begins in
      let j = block_inside s ts.0 m (after_tree s' ts.1.0 b) S (omega arith) in
      let rm = r.room in
      let fw = r.few in
      record {
        before = m + tree_records s ts.0;
        sort = s';
        tree = ts.1.0;
        ends = r.ends.0;
        room = omega arith;
        few = omega arith;
        begins = t.start_is;
        goes_on = t.go_is;
      }

  left_room : {later : List ℕ} {right : Block} (m : ℕ) (ss : List Sort) (ts : Trees ss) → Room contract last image b S w d m ss ts
      → ¬ (length ss ≡ 0) → ¬ (length ss ≡ 1) → Emitted contract last image b w.start w.go later right → length later ≡ length image
      → Emits contract right.before later right.next S w.keep × (right.before ≤ last)
  left_room m [] ts r h i g l = absurd (h refl)
  left_room m (s ∷ []) ts r h i g l = absurd (i refl)
  left_room m (s ∷ s' ∷ ss) ts r h i g l =
      let t = r.wires in
      let is = (g.tree_is (m + tree_records s ts.0) s' ts.1.0 r.ends.0).1 in
      let j = block_inside s' ts.1.0 (m + tree_records s ts.0) b w.start t.start_is in
      let b' = r.begins in
      let keep = t.keep_is in
      let count = r.ends.0.count in
      rw is (
        record {
          before = m;
          sort = s;
          tree = ts.0;
          ends = r.ends.1;
          room = rw l r.room;
          few = r.few;
          begins = omega arith;
          goes_on = omega arith;
        },
        omega arith,
      )

-- ---- what the writer may do, from what it is given

-- the last record with its operands, for which there is room
record Opened (contract : List ℕ) (n : ℕ) (image : List ℕ) (b S K : ℕ) (r : RecordBody) (count : ℕ) (p : RowPlan) : Type 0 where
  before : ℕ
  k : Kind
  f : Fields
  ts : Trees (line k).operands
  is : Known (record_of k f) r count p
  operands : Room contract (n - 1) image (b + length p.before) S (wires_of p b S K) (r.last - 1) before (line k).operands ts
  room : row_bytes * ((left_block (r.last - 1) (line k).operands ts before (b + length p.before) S).next + length p.after) ≤ length image
  few : (left_block (r.last - 1) (line k).operands ts before (b + length p.before) S).next + length p.after ≤ max_rows

module _ {contract : List ℕ} {n : ℕ} {image : List ℕ} {b S K : ℕ} (e : Emits contract n image b S K) where
  pub some_record : (1 ≤ n) × (record_bytes * n ≤ length contract)
  some_record = (at e.sort e.tree (seen e.sort e.tree) e.ends, e.ends.whole)
    where
      at : (s : Sort) (t : Tree s) → View s t → EndsWith contract n e.before s t → 1 ≤ n
      at s t (view k f ts) i = (ends_last contract n e.before k f ts i).some_record

  module _ {r : RecordBody} {count : ℕ} {p : RowPlan} (reads : RecordRead contract n r count p) where
    opened : Opened contract n image b S K r count p
    opened = at e.sort e.tree (seen e.sort e.tree) e.ends e.room e.few
      where
        at : (s : Sort) (t : Tree s) → View s t → EndsWith contract n e.before s t → row_bytes * after_tree s t b ≤ length image
            → after_tree s t b ≤ max_rows → Opened contract n image b S K r count p
        at s t (view k f ts) i room few =
            let m = e.before in
            let l = ends_last contract n m k f ts i in
            let own = record_of k f in
            let is = known reads own l in
            let ends = ends_operands contract n m k f ts i in
            let rm = rw (after_node k f ts m b S) at room in
            let fw = rw (after_node k f ts m b S) at few in
            record {
              before = m;
              k = k;
              f = f;
              ts = ts;
              is = is;
              operands =
                  rw (is.plan_is, is.body_is, inside_is own b) record {
                    ends = ends;
                    room = omega arith;
                    few = omega arith;
                    begins = omega (arith, e.begins, inside_is own b);
                    wires = wires_inside own b S K e.begins e.goes_on;
                  };
              room = rw (is.plan_is, is.body_is, inside_is own b) rm;
              few = rw (is.plan_is, is.body_is, inside_is own b) fw;
            }

    kind_is : kind_of r.kind ≡ some opened.k
    kind_is = ap (λ (x : RecordBody). kind_of x.kind) opened.is.body_is ∙ kind_number opened.k

    pub few_inside : b + length p.before ≤ max_rows
    few_inside =
        let o = opened in
        let i = ordered o.before (line o.k).operands o.ts o.operands in
        omega (arith, o.few, i.not_before)

    pub window_room : count ≡ 0 → WindowRoom (length image) (r.last - 1) (b + length p.before)
    window_room h =
        let o = opened in
        none o.k o.f o.is (line o.k).operands o.ts (o.is.count_is ∙ h) o.operands
      where
        none : (k : Kind) (f : Fields) → Known (record_of k f) r count p → (ss : List Sort) (ts : Trees ss) → length ss ≡ 0 → {m : ℕ}
            → Room contract (n - 1) image (b + length p.before) S (wires_of p b S K) (r.last - 1) m ss ts
            → WindowRoom (length image) (r.last - 1) (b + length p.before)
        none k f i [] ts e g =
            record {
              room = g.room;
              few = g.few;
              one_before = omega (arith, g.begins);
              two_before = rw (i.body_is, i.plan_is) (λ j. omega (arith, unmet_row k f j, before_is (record_of k f)));
            }
        none k f i (s ∷ ss) ts e g = absurd (omega arith)

    pub right_emits : ¬ (count ≡ 0) → Emits contract (n - 1) image (b + length p.before) (wires_of p b S K).start (wires_of p b S K).go
    right_emits h =
        let o = opened in
        right_room o.before (line o.k).operands o.ts o.operands (λ z. h (sym o.is.count_is ∙ z))

    pub left_emits : {later : List ℕ} {right : Block} → ¬ (count ≡ 0) → ¬ (count ≡ 1)
        → Emitted contract (n - 1) image (b + length p.before) (wires_of p b S K).start (wires_of p b S K).go later right → length later ≡ length image
        → Emits contract right.before later right.next S (wires_of p b S K).keep × (right.before ≤ n - 1)
    left_emits h i g l =
        let o = opened in
        left_room o.before (line o.k).operands o.ts o.operands (λ z. h (sym o.is.count_is ∙ z)) (λ z. i (sym o.is.count_is ∙ z)) g l

    -- and so there is by the plan of the record's kind; what is written by that plan is written by the one that was read
    pub own_rows : {size next : ℕ} → RecordRows size p b next → OwnRows size r b next
    own_rows h = record { kind = opened.k; kind_is = kind_is; rows = rw (← reads.plan_is opened.k kind_is) h }

    pub rows_planned : (later latest : List ℕ) (names : Name → ℕ) (next : ℕ)
        → ((k : Kind) → kind_of r.kind ≡ some k → latest ≡ record_written later names (plan_of (record_from k r)) b next)
        → latest ≡ record_written later names p b next
    rows_planned later latest names next f = rw (reads.plan_is opened.k kind_is) (f opened.k kind_is)

    pub block_planned : (block left right : Block) (names : Name → ℕ)
        → ((k : Kind) → kind_of r.kind ≡ some k → block ≡ record_block names (plan_of (record_from k r)) r.kind r.party left right)
        → block ≡ record_block names p r.kind r.party left right
    block_planned block left right names f = rw (reads.plan_is opened.k kind_is) (f opened.k kind_is)

    pub record_rows : {later : List ℕ} {left right : Block} → Written contract (n - 1) count (r.last - 1) image (b + length p.before) S (wires_of p b S K) later left right
        → length later ≡ length image → RecordRows (length later) p b left.next
    record_rows {later} {left} w l =
        let o = opened in
        let d = w.placed o.before (line o.k).operands o.ts o.is.count_is o.operands.ends in
        let i = ordered o.before (line o.k).operands o.ts o.operands in
        let after : b + length p.before ≤ left.next = rw d.left_is i.not_before in
        let room : row_bytes * (left.next + length p.after) ≤ length later = rw (l, d.left_is) o.room in
        let few : left.next + length p.after ≤ max_rows = rw d.left_is o.few in
        record {
          first = record { room = omega arith; few = omega arith };
          second = record { room = room; few = few };
        }
