-- A record with its operands makes a tree: a clause or an expression. Document 01, "Records"; document 02, "Duties that both parties own".
use Rattle.std.specs.Prelude.{ℕ, Bool, ◌&&◌, cond, List, [], ◌∷◌, eqb}
use Rattle.periods.specs.declared.Party.{Party}
use Rattle.periods.specs.declared.Party.TheVariants.{One as party1, Two as party2}
use Rattle.contract.specs.Expressions as E
use Rattle.contract.specs.Expressions.{Expression}
use Rattle.contract.specs.Meaning as M
use Rattle.contract.specs.Meaning.{Parties, only, both_parties, Literal, Clause, literal}
use Rattle.grammar.specs.Table.{Sort, clause, expression, Kind, duty, ban, power, both, then, repair, repeat, when, until, deadline, any, tries, idle, succeeds, fails, seq, or, star, within, Line, line}

-- the trees of a sort
abbrev pub Tree : Sort → Type 0
Tree clause = Clause
Tree expression = Expression

-- trees of these sorts, in this order
abbrev pub Trees : List Sort → Type 0
Trees [] = Unit {0}
Trees (s ∷ ss) = Tree s × Trees ss

-- a record's fields, a byte each
pub record Fields : Type 0 where
  pub party : ℕ
  pub action : ℕ
  pub last : ℕ

pub record Record : Type 0 where
  pub kind : Kind
  pub fields : Fields

-- each field is in the range that the kind's line gives
unfoldable pub good_fields : Line → Fields → Bool
good_fields l f = within l.party f.party && within l.action f.action && within l.last f.last

-- the party of a field in range, 1 or 2
abbrev pub party_named : ℕ → Party
party_named n = cond (eqb n 1) party1 party2

-- the owner of a field in range, 1 to 3
abbrev pub owner_named : ℕ → Parties
owner_named n = cond (eqb n 3) both_parties (only (party_named n))

-- the tree that a record makes of its operands
unfoldable pub node : (k : Kind) → Fields → Trees (line k).operands → Tree (line k).completes
node duty f ts = literal (Literal.duty (owner_named f.party)) f.action
node ban f ts = literal (Literal.ban (party_named f.party)) f.action
node power f ts = literal (Literal.power (party_named f.party)) f.action
node both f ts = M.both ts.0 ts.1.0
node then f ts = M.then ts.0 ts.1.0
node repair f ts = M.repair ts.0 ts.1.0
node repeat f ts = M.repeat ts.0
node when f ts = M.when ts.0 ts.1.0
node until f ts = M.until ts.0 ts.1.0
node deadline f ts = M.deadline (party_named f.party) f.action f.last
node any f ts = E.atom E.any
node tries f ts = E.atom (E.tries (party_named f.party) f.action)
node idle f ts = E.atom (E.idle (party_named f.party) f.action)
node succeeds f ts = E.atom (E.succeeds f.action)
node fails f ts = E.atom (E.fails f.action)
node seq f ts = E.seq ts.0 ts.1.0
node or f ts = E.or ts.0 ts.1.0
node star f ts = E.star ts.0
