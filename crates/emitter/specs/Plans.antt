-- How the rows of each record are laid out. That the plans give the rows of image/specs/Blocks.antt is shown in proofs/Plans.antt.
use Rattle.std.specs.Prelude.{Bool, ◌&&◌, cond, List, eqb, take, drop}
use Rattle.contract.specs.Meaning.{both_parties, parties_number}
use Rattle.grammar.specs.declared.Kind.{Kind}
use Rattle.grammar.specs.declared.Kind.TheVariants.{Duty as duty, Ban as ban, Power as power, Both as both, Then as then, Repair as repair, Repeat as repeat, When as when, Until as until, Deadline as deadline, Any as any, Tries as tries, Idle as idle, Succeeds as succeeds, Fails as fails, Seq as seq, Or as or, Star as star}
use Rattle.grammar.specs.Table.{line}
use Rattle.grammar.specs.Trees.{Record}
use Rattle.image.specs.Widths.{width}
use Rattle.emitter.specs.declared.Plan.{Plan}
use Rattle.emitter.specs.Rows.{Name, Zero, S, K, B, N, LOne, LTwo, RSat, ROne, RTwo, NamedRow, kind_rows, joint_rows}

-- a program's plan with its rows as lists: a kind's own rows, those before its operands' rows and those after them, what tells its operands when
-- they read, and what its block gives out
pub record RowPlan : Type 0 where
  pub before : List NamedRow
  pub after : List NamedRow
  pub start : Name
  pub go : Name
  pub keep : Name
  pub sat : Name
  pub one : Name
  pub two : Name

abbrev pub read_plan : Plan → RowPlan
read_plan p =
    record {
      before = p.before.now;
      after = p.after.now;
      start = p.start;
      go = p.go;
      keep = p.keep;
      sat = p.sat;
      one = p.one;
      two = p.two;
    }

-- these rows, of which as many as the kind's width says stand before the operands' rows
abbrev laid_out : Kind → List NamedRow → (start go keep sat one two : Name) → RowPlan
laid_out j rows s k l x y z =
    let n = (width j).before in
    record { before = take n rows; after = drop n rows; start = s; go = k; keep = l; sat = x; one = y; two = z }

abbrev plan : Kind → (start go keep sat one two : Name) → RowPlan
plan j = laid_out j (kind_rows j)

abbrev pub kind_plan : Kind → RowPlan
kind_plan duty = plan duty Zero Zero Zero (B 3) (B 5) (B 7)
kind_plan ban = plan ban Zero Zero Zero (B 5) (B 3) Zero
kind_plan power = plan power Zero Zero Zero (B 6) Zero (B 4)
kind_plan both = plan both S (B 2) (B 2) (N 6) (N 7) (N 8)
kind_plan then = plan then (B 1) (B 3) K RSat (N 0) (N 1)
kind_plan repair = plan repair (B 1) (B 3) K (N 1) ROne RTwo
kind_plan repeat = plan repeat (B 4) (B 3) Zero Zero ROne RTwo
kind_plan when = plan when (B 1) (B 3) (B 3) (N 6) ROne RTwo
kind_plan until = plan until (B 5) (B 2) (B 2) (N 3) LOne LTwo
kind_plan deadline = plan deadline Zero Zero Zero (N 2) (N 4) (N 5)
kind_plan any = plan any Zero Zero Zero S Zero Zero
kind_plan tries = plan tries Zero Zero Zero (B 1) Zero Zero
kind_plan idle = plan idle Zero Zero Zero (B 2) Zero Zero
kind_plan succeeds = plan succeeds Zero Zero Zero (B 3) Zero Zero
kind_plan fails = plan fails Zero Zero Zero (B 4) Zero Zero
kind_plan seq = plan seq (B 2) K K (N 0) (N 2) Zero
kind_plan or = plan or S K K (N 0) (N 1) Zero
kind_plan star = plan star (B 2) K Zero RSat (N 0) Zero

-- the same of a duty that both parties own
abbrev pub joint_plan : RowPlan
joint_plan = laid_out duty joint_rows Zero Zero Zero (B 3) (B 5) (B 7)

-- the plan of a kind's records, by whether they name both parties
abbrev pub plan_for : Kind → (joint : Bool) → RowPlan
plan_for k joint = cond (eqb (line k).number (line duty).number && joint) joint_plan (kind_plan k)

abbrev pub plan_of : Record → RowPlan
plan_of r = plan_for r.kind (eqb r.fields.party (parties_number both_parties))
