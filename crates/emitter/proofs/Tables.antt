-- What holds of every plan: each rule is one computed test over the kinds.
use Prim.Native.Nat.{ℕ, ◌+◌, ◌<◌}
use native.Mathlib.Omega.{arith}
use mathlib.Core.Bool.{Bool, true, false}
use mathlib.Core.Path.{◌≡◌, refl, sym}
use lib.Dec.{eqb, ltb}
use lib.ListN.{length}
use borrow.Author.Tests.{eqb-true, ltb-true}
use Rattle.contract.specs.Meaning.{both_parties, parties_number}
use Rattle.grammar.specs.declared.Kind.{Kind}
use Rattle.grammar.specs.Table.{kinds}
use Rattle.grammar.specs.Trees.{Record}
use Rattle.grammar.proofs.Table.{every, of_all}
use Rattle.image.specs.Widths.{width, inside}
use Rattle.image.proofs.Sizes.{⊹-plus}
use Rattle.emitter.specs.declared.Wires.{Wires}
use Rattle.emitter.specs.Rows.{Name, B}
use Rattle.emitter.specs.Plans.{RowPlan, plan_for, plan_of}
use Rattle.emitter.specs.Blocks.{wire, wires_of}

-- a test that is passed by the plan of every kind, whether its records name both parties or not, is passed by that of every record
of_plans : (t : Kind → RowPlan → Bool) → every (λ k. t k (plan_for k true)) kinds ≡ true → every (λ k. t k (plan_for k false)) kinds ≡ true
    → (r : Record) → t r.kind (plan_of r) ≡ true
of_plans t h i r = go (eqb r.fields.party (parties_number both_parties))
  where
    go : (joint : Bool) → t r.kind (plan_for r.kind joint) ≡ true
    go true = of_all (λ k. t k (plan_for k true)) h r.kind
    go false = of_all (λ k. t k (plan_for k false)) i r.kind

-- as many rows stand before the operands' rows, and after them, as the widths say
pub before_is : (r : Record) → length (plan_of r).before ≡ (width r.kind).before
before_is r =
    eqb-true (length (plan_of r).before) (width r.kind).before (of_plans (λ k p. eqb (length p.before) (width k).before) refl refl r)

pub after_is : (r : Record) → length (plan_of r).after ≡ (width r.kind).after
after_is r =
    eqb-true (length (plan_of r).after) (width r.kind).after (of_plans (λ k p. eqb (length p.after) (width k).after) refl refl r)

pub inside_is : (r : Record) (b : ℕ) → b + length (plan_of r).before ≡ inside r.kind b
inside_is r b = rw (before_is r) (sym (⊹-plus b (width r.kind).before))

-- where an operand is told when to read by one of the record's own rows, that row stands before the operands' rows
abbrev pub known_wire : Kind → Name → Bool
known_wire j (B i) = ltb i (width j).before
known_wire j _ = true

wire_inside : (j : Kind) (x : Name) (b s k : ℕ) → s < b → k < b → known_wire j x ≡ true → wire b s k x < inside j b
wire_inside j (B n) b s k h i t = rw (⊹-plus b (width j).before, ⊹-plus b n) (omega (arith, ltb-true n (width j).before t))
wire_inside j _ b s k h i t = rw (⊹-plus b (width j).before) (omega arith)

pub record WiresInside (w : Wires) (b : ℕ) : Type 0 where
  pub start_is : w.start < b
  pub go_is : w.go < b
  pub keep_is : w.keep < b

pub wires_inside : (r : Record) (b s k : ℕ) → s < b → k < b → WiresInside (wires_of (plan_of r) b s k) (inside r.kind b)
unfolding wires_of
wires_inside r b s k h i =
    record {
      start_is = wire_inside r.kind (plan_of r).start b s k h i (of_plans (λ k p. known_wire k p.start) refl refl r);
      go_is = wire_inside r.kind (plan_of r).go b s k h i (of_plans (λ k p. known_wire k p.go) refl refl r);
      keep_is = wire_inside r.kind (plan_of r).keep b s k h i (of_plans (λ k p. known_wire k p.keep) refl refl r);
    }
