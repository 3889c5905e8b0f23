-- `emitter::emit` meets its contract: with the rows of the operands written, the record's own rows round them are the tree's.
use Prim.Native.Nat.{ℕ, ◌+◌, ◌-◌}
use native.Mathlib.Omega.{arith}
use mathlib.Core.List.{List, map}
use lib.ListN.{length}
use mathlib.Core.Option.{some}
use mathlib.Core.Path.{◌≡◌, ◌∙◌}
use Rattle.grammar.specs.declared.Kind.{Kind}
use Rattle.grammar.specs.Table.{kind_of}
use Rattle.reader.specs.Codes.{operand_count}
use Rattle.reader.proofs.Codes.{operand_count-max}
use Rattle.emitter.specs.declared.RecordBody.{RecordBody}
use Rattle.emitter.specs.declared.Block.{Block}
use Rattle.emitter.specs.declared.Wires.{Wires}
use Rattle.emitter.specs.Rows.{numbers_of, written_rows}
use Rattle.emitter.specs.Plans.{RowPlan, plan_of}
use Rattle.emitter.specs.Blocks.{last_record, record_from, no_block, window_block, window_from, wires_of, Emitted}
use Rattle.emitter.proofs.Emitting.{RecordRead, Written, written_no, written_one, written_two, emitted}
use Rattle.emitter.proofs.Room.{some_record, few_inside, window_room, right_emits, left_emits, record_rows, own_rows, rows_planned, block_planned}
use Rattle.emitter.proofs.+emit.Goals as goal

-- the last record, its plan and how many operands it has
read : (contract : List ℕ) (n : ℕ) {r : RecordBody} {plan : RowPlan} {count : ℕ} → r ≡ last_record contract n
    → ((k : Kind) → kind_of r.kind ≡ some k → plan ≡ plan_of (record_from k r)) → count ≡ operand_count (kind_of r.kind)
    → RecordRead contract n r count plan
read contract n e f g = record { body_is = e; plan_is = f; count_is = g }

-- its operands' rows are written, and these are their blocks
module _ {contract : List ℕ} {n : ℕ} {r : RecordBody} {plan : RowPlan} {count : ℕ} (i : RecordRead contract n r count plan)
    (image : List ℕ) (at s k : ℕ) where
  abbrev WrittenAt : (later : List ℕ) (left right : Block) → Type 0
  WrittenAt later left right = Written contract (n - 1) count (r.last - 1) image (at + length plan.before) s (wires_of plan at s k) later left right

  written_none : {later : List ℕ} {window : Block} → count ≡ 0
      → later ≡ written_rows image (at + length plan.before) (map numbers_of (window_from (r.last - 1) (at + length plan.before)))
      → window ≡ window_block (n - 1) (r.last - 1) (at + length plan.before) → WrittenAt later window window
  written_none z e f = rw z (written_no e f)

  module _ {w : Wires} {later : List ℕ} {right : Block} (e : w ≡ wires_of plan at s k)
      (f : Emitted contract (n - 1) image (at + length plan.before) w.start w.go later right) where
    right_at : Emitted contract (n - 1) image (at + length plan.before) (wires_of plan at s k).start (wires_of plan at s k).go later right
    right_at = rw (← e) f

    written_right : {none : Block} → count ≡ 1 → none ≡ no_block right.before right.next → WrittenAt later none right
    written_right o g = rw (o, g) (written_one right_at)

    written_both : {latest : List ℕ} {left : Block} → ¬ (count ≡ 0) → ¬ (count ≡ 1)
        → Emitted contract right.before later right.next s w.keep latest left → WrittenAt latest left right
    written_both z o g =
        let two : count ≡ 2 = omega (arith, i.count_is, operand_count-max (kind_of r.kind)) in
        rw two (written_two right_at (rw e at g))

pub last_record-body-requires-clause-le_n : goal.last_record-body-requires-clause-le_n
last_record-body-requires-clause-le_n t c = (some_record c.requires).0

pub overflow_sub-before : goal.overflow_sub-before
overflow_sub-before t c = (some_record c.requires).0

pub overflow_cast-inside : goal.overflow_cast-inside
overflow_cast-inside t c =
    let i = read c.args.contract.now c.args.n c.last_record-body.ensures c.plan_of-plan.ensures c.operands-operands.ensures in
    let h = few_inside c.requires i in
    record { fits = omega arith }

pub overflow_add-inside : goal.overflow_add-inside
overflow_add-inside t c =
    let i = read c.args.contract.now c.args.n c.last_record-body.ensures c.plan_of-plan.ensures c.operands-operands.ensures in
    let h = few_inside c.requires i in
    record { fits = omega arith }

pub put_window-later-requires : goal.put_window-later-requires
put_window-later-requires t c =
    let i = read c.args.contract.now c.args.n c.last_record-body.ensures c.plan_of-plan.ensures c.operands-operands.ensures in
    window_room c.requires i c.if-operands-eq0.true

-- without operands
pub put_record-requires : goal.put_record-requires
put_record-requires t c =
    let a = c.args in
    let i = read c.args.contract.now c.args.n c.last_record-body.ensures c.plan_of-plan.ensures c.operands-operands.ensures in
    let e = c.put_window-later.ensures in
    let w = written_none i a.image.now a.at a.s a.k c.if-operands-eq0.true e.written e.gives in
    own_rows c.requires i (record_rows c.requires i w c.put_window-later.auto.image)

pub returns-then-operands-eq0 : goal.returns-then-operands-eq0
returns-then-operands-eq0 t c =
    let a = c.args in
    let i = read c.args.contract.now c.args.n c.last_record-body.ensures c.plan_of-plan.ensures c.operands-operands.ensures in
    let e = c.put_window-later.ensures in
    let w = written_none i a.image.now a.at a.s a.k c.if-operands-eq0.true e.written e.gives in
    let p = c.put_record.ensures in
    emitted i _ _ _ w (rows_planned c.requires i _ _ _ _ p.written) (block_planned c.requires i _ _ _ _ p.gives)

pub wires-wires-requires : goal.wires-wires-requires
wires-wires-requires t c =
    let i = read c.args.contract.now c.args.n c.last_record-body.ensures c.plan_of-plan.ensures c.operands-operands.ensures in
    omega (arith, few_inside c.requires i)

pub emit-right-requires : goal.emit-right-requires
emit-right-requires t c =
    let i = read c.args.contract.now c.args.n c.last_record-body.ensures c.plan_of-plan.ensures c.operands-operands.ensures in
    let h = (some_record c.requires).0 in
    (omega arith, rw c.wires-wires.ensures (right_emits c.requires i c.if-operands-eq0.false))

-- with one operand
pub put_record-requires-then-operands-eq1 : goal.put_record-requires-then-operands-eq1
put_record-requires-then-operands-eq1 t c =
    let a = c.args in
    let i = read c.args.contract.now c.args.n c.last_record-body.ensures c.plan_of-plan.ensures c.operands-operands.ensures in
    let w = written_right i a.image.now a.at a.s a.k c.wires-wires.ensures c.emit-right.ensures c.if-operands-eq1.true c.no_block-none.ensures in
    own_rows c.requires i (record_rows c.requires i w c.emit-right.auto.image)

pub returns-then-operands-eq1 : goal.returns-then-operands-eq1
returns-then-operands-eq1 t c =
    let a = c.args in
    let i = read c.args.contract.now c.args.n c.last_record-body.ensures c.plan_of-plan.ensures c.operands-operands.ensures in
    let w = written_right i a.image.now a.at a.s a.k c.wires-wires.ensures c.emit-right.ensures c.if-operands-eq1.true c.no_block-none.ensures in
    let e = c.put_record-then-operands-eq1.ensures in
    emitted i _ _ _ w (rows_planned c.requires i _ _ _ _ e.written) (block_planned c.requires i _ _ _ _ e.gives)

-- with two operands
pub emit-left-requires : goal.emit-left-requires
emit-left-requires t c =
    let a = c.args in
    let i = read c.args.contract.now c.args.n c.last_record-body.ensures c.plan_of-plan.ensures c.operands-operands.ensures in
    let h = (some_record c.requires).0 in
    let r = right_at i a.image.now a.at a.s a.k c.wires-wires.ensures c.emit-right.ensures in
    let l = left_emits c.requires i c.if-operands-eq0.false c.if-operands-eq1.false r c.emit-right.auto.image in
    (omega (arith, l.1), rw c.wires-wires.ensures l.0)

pub put_record-requires-2 : goal.put_record-requires-2
put_record-requires-2 t c =
    let a = c.args in
    let i = read c.args.contract.now c.args.n c.last_record-body.ensures c.plan_of-plan.ensures c.operands-operands.ensures in
    let w = written_both i a.image.now a.at a.s a.k c.wires-wires.ensures c.emit-right.ensures c.if-operands-eq0.false c.if-operands-eq1.false c.emit-left.ensures in
    own_rows c.requires i (record_rows c.requires i w (c.emit-left.auto.image ∙ c.emit-right.auto.image))

pub returns : goal.returns
returns t c =
    let a = c.args in
    let i = read c.args.contract.now c.args.n c.last_record-body.ensures c.plan_of-plan.ensures c.operands-operands.ensures in
    let w = written_both i a.image.now a.at a.s a.k c.wires-wires.ensures c.emit-right.ensures c.if-operands-eq0.false c.if-operands-eq1.false c.emit-left.ensures in
    let p = c.put_record-2.ensures in
    emitted i _ _ _ w (rows_planned c.requires i _ _ _ _ p.written) (block_planned c.requires i _ _ _ _ p.gives)
