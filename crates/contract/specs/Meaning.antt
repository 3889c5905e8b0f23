-- Clauses, their decisions and blame, and what a clause means on a list of periods.
-- Document 01, "Meaning of clauses"; of kind 10 document 02, "Duties with a deadline"; of a duty's owner document 02, "Duties that both parties own"; of
-- kind 9 document 02, "An ending that may begin in any period".
use Rattle.std.specs.Prelude.{ℕ, zero, suc, ◌+◌, ◌-◌, max, Bool, true, false, cond, List, [], ◌∷◌, leb, ltb, length, take, drop}
use Rattle.std.proofs.Math.Option.{Option, none, some}
use Rattle.periods.specs.declared.Party.{Party}
use Rattle.periods.specs.declared.Party.TheVariants.{One as party1, Two as party2}
use Rattle.periods.specs.Periods.{party_number, other, Period, tries, succeeds}
use Rattle.contract.specs.Expressions.{Expression, Holds}
use Rattle.contract.specs.Readings.{Reading, pending, accepted, rejected, reading, acceptance}

-- one party or both: who owns a duty, and whom a violation blames
pub data Parties : Type 0 where
  only : Party → Parties
  both_parties : Parties

-- "1, 2, or 3 for both parties"
abbrev pub parties_number : Parties → ℕ
parties_number (only p) = party_number p
parties_number both_parties = 3

-- kinds 1 to 3; a duty has an owner
pub data Literal : Type 0 where
  duty : (owner : Parties) → Literal
  ban power : Party → Literal

-- kinds 1 to 10; a deadline has a party, an action and a window
pub data Clause : Type 0 where
  literal : Literal → (action : ℕ) → Clause
  deadline : Party → (action window : ℕ) → Clause
  both : Clause → Clause → Clause
  then : Clause → Clause → Clause
  repair : Clause → Clause → Clause
  repeat : Clause → Clause
  when : Expression → Clause → Clause
  until : Clause → Expression → Clause

-- the two blames united
abbrev pub unite : Parties → Parties → Parties
unite (only party1) (only party1) = only party1
unite (only party1) (only party2) = both_parties
unite (only party2) (only party1) = both_parties
unite (only party2) (only party2) = only party2
unite (only p) both_parties = both_parties
unite both_parties b = both_parties

-- "On a list of periods a clause is undecided, or satisfied or violated at one period k, counted from 1. A violation carries blame."
pub data Decision : Type 0 where
  undecided : Decision
  satisfied : ℕ → Decision
  violated : ℕ → (blame : Parties) → Decision

-- "Duty, ban and power decide at period 1." Whether p tries and whether q tries are the two tests; where both parties own a duty, whether party 1
-- tries and whether party 2 tries.
-- Duty: satisfied if both try; blame p if p doesn't try, otherwise q.
-- Duty of both parties: satisfied when both try; otherwise the blame is on each party that didn't try.
-- Ban: violated if both try, blame p.
-- Power: violated if p tries and q doesn't, blame q.
abbrev pub literal_decision : Literal → Bool → Bool → Decision
literal_decision (duty (only p)) true true = satisfied 1
literal_decision (duty (only p)) true false = violated 1 (only (other p))
literal_decision (duty (only p)) false q = violated 1 (only p)
literal_decision (duty both_parties) true true = satisfied 1
literal_decision (duty both_parties) true false = violated 1 (only party2)
literal_decision (duty both_parties) false true = violated 1 (only party1)
literal_decision (duty both_parties) false false = violated 1 both_parties
literal_decision (ban p) true true = violated 1 (only p)
literal_decision (ban p) true false = satisfied 1
literal_decision (ban p) false q = satisfied 1
literal_decision (power p) true true = satisfied 1
literal_decision (power p) true false = violated 1 (only (other p))
literal_decision (power p) false q = satisfied 1

-- the party that is tested first: p, and party 1 where both own a duty
abbrev pub tested_first : Literal → Party
tested_first (duty (only p)) = p
tested_first (duty both_parties) = party1
tested_first (ban p) = p
tested_first (power p) = p

-- a literal looks at the first period
abbrev pub literal_meaning : Literal → (action : ℕ) → List Period → Decision
literal_meaning l a [] = undecided
literal_meaning l a (x ∷ w) = literal_decision l (tries x (tested_first l) a) (tries x (other (tested_first l)) a)

-- the earlier of two violations, with that one's blame; the two blames are united if they fall in the same period
abbrev pub earlier : ℕ → Parties → ℕ → Parties → Decision
earlier j b k c = cond (ltb j k) (violated j b) (cond (ltb k j) (violated k c) (violated j (unite b c)))

-- Both: violated at the earlier violation; otherwise satisfied when the later half is satisfied.
abbrev pub both_meaning : Decision → Decision → Decision
both_meaning undecided undecided = undecided
both_meaning undecided (satisfied k) = undecided
both_meaning undecided (violated k c) = violated k c
both_meaning (satisfied j) undecided = undecided
both_meaning (satisfied j) (satisfied k) = satisfied (max j k)
both_meaning (satisfied j) (violated k c) = violated k c
both_meaning (violated j b) undecided = violated j b
both_meaning (violated j b) (satisfied k) = violated j b
both_meaning (violated j b) (violated k c) = earlier j b k c

-- a decision of what reads from period n + 1, in periods of the whole
abbrev pub later : ℕ → Decision → Decision
later n undecided = undecided
later n (satisfied k) = satisfied (n + k)
later n (violated k b) = violated (n + k) b

-- what a meaning gives when it reads from period k + 1 of a list
abbrev pub after : (List Period → Decision) → List Period → ℕ → Decision
after m w k = later k (m (drop k w))

-- Then: when the left is satisfied at k, the right reads from period k + 1; a left violation is the violation of the whole.
abbrev pub then_meaning : Decision → (ℕ → Decision) → Decision
then_meaning undecided right = undecided
then_meaning (satisfied k) right = right k
then_meaning (violated k b) right = violated k b

-- Repair: when the left is violated at k, the right reads from k + 1 and its blame alone counts; a left satisfaction satisfies the whole.
abbrev pub repair_meaning : Decision → (ℕ → Decision) → Decision
repair_meaning undecided right = undecided
repair_meaning (satisfied k) right = satisfied k
repair_meaning (violated k b) right = right k

-- Repeat: each satisfaction at k begins the clause anew at k + 1; never satisfied; its first violation is the whole's.
-- Begun at most n times: never too few where n is the number of periods, since a satisfaction takes at least one.
unfoldable pub repeat_meaning : (List Period → Decision) → ℕ → List Period → Decision
repeat_meaning m zero w = undecided
repeat_meaning m (suc n) w = then_meaning (m w) (after (repeat_meaning m n) w)

-- When: expression accepted at k, the clause reads from k + 1; rejected at k, satisfied at k.
abbrev pub when_meaning : Reading → (ℕ → Decision) → Decision
when_meaning pending clause = undecided
when_meaning (accepted k) clause = clause k
when_meaning (rejected k) clause = satisfied k

-- the decision if it comes no later than period k, otherwise satisfied at k
abbrev pub no_later : ℕ → Decision → Decision
no_later k undecided = satisfied k
no_later k (satisfied j) = cond (leb j k) (satisfied j) (satisfied k)
no_later k (violated j b) = cond (leb j k) (violated j b) (satisfied k)

-- Until: the clause's own decision if it comes no later than acceptance; otherwise satisfied at acceptance.
abbrev pub until_meaning : Decision → (acceptance : Option ℕ) → Decision
until_meaning d none = d
until_meaning d (some k) = no_later k d

-- satisfied at the first period of a list in which both try
unfoldable pub first_success : (action : ℕ) → List Period → Decision
first_success a [] = undecided
first_success a (x ∷ w) = cond (succeeds x a) (satisfied 1) (later 1 (first_success a w))

-- the first decision if there is one, otherwise the second
abbrev pub or_else : Decision → Decision → Decision
or_else undecided d = d
or_else (satisfied k) d = satisfied k
or_else (violated k b) d = violated k b

-- Deadline: satisfied in the first of its d periods in which both try. If none of them succeeds it is violated at the d-th, with a plain duty's blame
-- for that period: as a plain duty decides that reads from period d.
abbrev pub deadline_meaning : Party → (action window : ℕ) → List Period → Decision
deadline_meaning p a d w = or_else (first_success a (take d w)) (after (literal_meaning (duty (only p)) a) w (d - 1))

-- what a clause means on a list of periods
unfoldable pub meaning : Clause → List Period → Decision
meaning (literal l a) w = literal_meaning l a w
meaning (deadline p a d) w = deadline_meaning p a d w
meaning (both l r) w = both_meaning (meaning l w) (meaning r w)
meaning (then l r) w = then_meaning (meaning l w) (after (meaning r) w)
meaning (repair l r) w = repair_meaning (meaning l w) (after (meaning r) w)
meaning (repeat c) w = repeat_meaning (meaning c) (length w) w
meaning (when e c) w = when_meaning (reading e w) (after (meaning c) w)
meaning (until c e) w = until_meaning (meaning c w) (acceptance e w)

-- "An expression under `when` or `until` must not hold the empty list." (Document 01, "Expressions")
unfoldable pub EmptyFree : Clause → Type 0
EmptyFree (literal l a) = Unit {0}
EmptyFree (deadline p a d) = Unit {0}
EmptyFree (both l r) = EmptyFree l × EmptyFree r
EmptyFree (then l r) = EmptyFree l × EmptyFree r
EmptyFree (repair l r) = EmptyFree l × EmptyFree r
EmptyFree (repeat c) = EmptyFree c
EmptyFree (when e c) = (¬ Holds e []) × EmptyFree c
EmptyFree (until c e) = EmptyFree c × (¬ Holds e [])
