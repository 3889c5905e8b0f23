-- A number's kind stands at its place among the kinds.
use Rattle.std.proofs.Common.{arith, refl}
use Rattle.grammar.proofs.Table.{clause_kind, expression_kind, no_kind}
use Rattle.grammar.proofs.KindTryFromU8.try_from.Goals as goal

pub returns-in-1-to-10 : goal.returns-in-1-to-10
returns-in-1-to-10 c = rw (clause_kind c.args.number (omega arith, omega arith)) refl

pub returns-in-16-to-23 : goal.returns-in-16-to-23
returns-in-16-to-23 c = rw (expression_kind c.args.number (omega arith, omega arith)) refl

pub returns-in_default : goal.returns-in_default
returns-in_default c = rw (no_kind c.args.number (λ h. omega arith) (λ h. omega arith)) refl

pub returns-in_default-2 : goal.returns-in_default-2
returns-in_default-2 c = rw (no_kind c.args.number (λ h. omega arith) (λ h. omega arith)) refl

pub returns-in_default-3 : goal.returns-in_default-3
returns-in_default-3 c = rw (no_kind c.args.number (λ h. omega arith) (λ h. omega arith)) refl
