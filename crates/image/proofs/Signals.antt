-- The vocabulary of the layers above: signals, what it means that they obey rows, what a decision reports, and the equations between the signals
-- of each kind's block.
use Prim.Native.Nat.{ℕ, suc, ◌-◌}
use mathlib.Core.Bool.{Bool, true, false, not, ◌&&◌, ◌||◌, cond}
use mathlib.Core.List.{List, [], ◌∷◌}
use mathlib.Core.Path.{◌≡◌, refl}
use Rattle.periods.specs.declared.Party.{Party}
use Rattle.periods.specs.declared.Party.TheVariants.{One as party1, Two as party2}
use Rattle.periods.specs.Periods.{other, Period, tries, succeeds}
use Rattle.layout.specs.Rows.{Row, never, initial, attempt, negation, conjunction, disjunction, previous}
use Rattle.contract.specs.Expressions.{Atom, holds, Expression, atom, seq, or, star, holds_empty}
use Rattle.contract.specs.Meaning.{Parties, only, both_parties, Literal, duty, Clause, literal, deadline, both, then, repair, repeat, when, until, Decision, undecided, satisfied, violated, literal_decision, tested_first}

-- A signal has a value in each period: given the period and those before it, the latest first.
abbrev pub Signal : Type 0
Signal = Period → List Period → Bool

-- its value in the last period of a history, the latest period first; false where there is none
abbrev pub at : Signal → List Period → Bool
at x [] = false
at x (p ∷ h) = x p h

-- ---- rows

-- no period was before
abbrev pub is_first : List Period → Bool
is_first [] = true
is_first (p ∷ h) = false

-- a row's value by the signals of the rows it names
abbrev pub row_signal : (ℕ → Signal) → Row → Signal
row_signal v never p h = false
row_signal v initial p h = is_first h
row_signal v (attempt q a) p h = tries p q a
row_signal v (negation x) p h = not (v x p h)
row_signal v (conjunction x y) p h = v x p h && v y p h
row_signal v (disjunction x y) p h = v x p h || v y p h
row_signal v (previous x) p h = at (v x) h

-- two signals that are the same in every period
infixl 10 ◌≐◌
abbrev pub ◌≐◌ : Signal → Signal → Type 0
x ≐ y = (p : Period) (h : List Period) → x p h ≡ y p h

-- an equation with `or` holds at the end of a history too
pub at_or : (x y z : Signal) → (x ≐ λ p h. y p h || z p h) → (h : List Period) → at x h ≡ (at y h || at z h)
at_or x y z e [] = refl
at_or x y z e (p ∷ h) = e p h

-- the signals of the rows from row b on are those that the rows give
abbrev pub Obeys : (ℕ → Signal) → ℕ → List Row → Type 0
Obeys v b [] = Unit {0}
Obeys v b (r ∷ rs) = (v b ≐ row_signal v r) × Obeys v (suc b) rs

-- ---- what a decision says in the period in which it falls

pub data Report : Type 0 where
  nothing met : Report
  broken : Parties → Report

abbrev pub is_met : Report → Bool
is_met nothing = false
is_met met = true
is_met (broken b) = false

abbrev pub blames : Party → Parties → Bool
blames party1 (only party1) = true
blames party1 (only party2) = false
blames party2 (only party1) = false
blames party2 (only party2) = true
blames p both_parties = true

abbrev pub is_broken : Party → Report → Bool
is_broken q nothing = false
is_broken q met = false
is_broken q (broken b) = blames q b

-- the kind of a decision, whatever its period
abbrev pub report_of : Decision → Report
report_of undecided = nothing
report_of (satisfied k) = met
report_of (violated k b) = broken b

-- what a literal says by whether it begins to read now, and by the two parties' attempts
abbrev pub literal_report : Literal → (starts first second : Bool) → Report
literal_report l s t u = cond s (report_of (literal_decision l t u)) nothing

-- three values say a report
pub record Says (sat one two : Bool) (s : Report) : Type 0 where
  pub sat_is : sat ≡ is_met s
  pub one_is : one ≡ is_broken party1 s
  pub two_is : two ≡ is_broken party2 s

pub exactly : (s : Report) → Says (is_met s) (is_broken party1 s) (is_broken party2 s) s
exactly s = record { sat_is = refl; one_is = refl; two_is = refl }

-- ---- the equations of each kind's block

-- `go` is K as long as `done` was not true in the period before
pub record UntilDone (done K go : Signal) : Type 0 where
  pub goes : go ≐ λ p h. K p h && not (at done h)

-- `start` is K in the period after `fired`, `go` is K in every other
pub record HandsOver (fired K start go : Signal) : Type 0 where
  pub starts : start ≐ λ p h. K p h && at fired h
  pub goes : go ≐ λ p h. K p h && not (at fired h)

-- `start` is true where S is, and where K is in the period after `ended`
pub record JoinsOn (ended S K start : Signal) : Type 0 where
  pub starts : start ≐ λ p h. K p h && at ended h || S p h

-- `kept` is true where `now` is, and stays true where `go` is
pub record Remembers (now go kept : Signal) : Type 0 where
  pub stays : kept ≐ λ p h. go p h && at kept h || now p h

-- The periods of a window from one of them on, n more after it. `missed`: the duty is missed in that period of the window. `last`: in the last one.
-- `earlier`: it was missed in the period before, in one of these but the last.
pub data Window (a : ℕ) (K : Signal) : ℕ → (missed earlier last : Signal) → Type 0 where
  at_last : {missed earlier last : Signal}
      → (earlier ≐ λ p h. false)
      → (last ≐ missed)
      → Window a K 0 missed earlier last
  more : {n : ℕ} {missed next later earlier last : Signal}
      → (next ≐ λ p h. K p h && not (succeeds p a) && at missed h)
      → Window a K n next later last
      → (earlier ≐ λ p h. at missed h || later p h)
      → Window a K (suc n) missed earlier last

-- what a deadline says by whether it waits now, whether it is missed in the last period of its window, and by the two parties' attempts
abbrev pub deadline_report : Party → (action : ℕ) → (waits last : Bool) → Period → Report
deadline_report q a w z p = literal_report (duty (only q)) (cond (succeeds p a) w z) (tries p q a) (tries p (other q) a)

-- S where the expression holds the empty list
abbrev pub where_empty : Expression → Signal → Signal
where_empty e x p h = holds_empty e && x p h

-- the signals of an expression's block: begins to read, goes on; a list of the set ends, one that has begun may go on
pub data WiredExpression : Expression → (S K end live : Signal) → Type 0 where
  wired_atom : {a : Atom} {S K end live : Signal}
      → (end ≐ λ p h. S p h && holds a p)
      → (live ≐ λ p h. false)
      → WiredExpression (atom a) S K end live
  wired_seq : {l r : Expression} {S K start end_l live_l end_r live_r end live : Signal}
      → WiredExpression l S K end_l live_l
      → WiredExpression r start K end_r live_r
      → JoinsOn end_l (where_empty l S) K start
      → (end ≐ λ p h. end_r p h || where_empty r end_l p h)
      → (live ≐ λ p h. live_l p h || live_r p h || end_l p h)
      → WiredExpression (seq l r) S K end live
  wired_or : {l r : Expression} {S K end_l live_l end_r live_r end live : Signal}
      → WiredExpression l S K end_l live_l
      → WiredExpression r S K end_r live_r
      → (end ≐ λ p h. end_l p h || end_r p h)
      → (live ≐ λ p h. live_l p h || live_r p h)
      → WiredExpression (or l r) S K end live
  wired_star : {e : Expression} {S K start end live_e live : Signal}
      → WiredExpression e start K end live_e
      → JoinsOn end S K start
      → (live ≐ λ p h. live_e p h || end p h)
      → WiredExpression (star e) S K end live

-- the signals of a clause's block: begins to read, goes on; satisfied now, violated now with party 1, with party 2 to blame
pub data WiredClause : Clause → (S K sat one two : Signal) → Type 0 where
  wired_literal : {l : Literal} {a : ℕ} {S K sat one two : Signal}
      → ((p : Period) (h : List Period)
      → Says (sat p h) (one p h) (two p h) (literal_report l (S p h) (tries p (tested_first l) a) (tries p (other (tested_first l)) a)))
      → WiredClause (literal l a) S K sat one two
  wired_deadline : {q : Party} {a d : ℕ} {S K missed earlier last sat one two : Signal}
      → (missed ≐ λ p h. S p h && not (succeeds p a))
      → Window a K (d - 1) missed earlier last
      → ((p : Period) (h : List Period)
      → Says (sat p h) (one p h) (two p h) (deadline_report q a (S p h || K p h && earlier p h) (last p h) p))
      → WiredClause (deadline q a d) S K sat one two
  wired_both : {l r : Clause} {S K go done sat_l one_l two_l sat_r one_r two_r met_l met_r sat one two : Signal}
      → UntilDone done K go
      → WiredClause l S go sat_l one_l two_l
      → WiredClause r S go sat_r one_r two_r
      → Remembers sat_l go met_l
      → Remembers sat_r go met_r
      → (sat ≐ λ p h. met_l p h && met_r p h)
      → (one ≐ λ p h. one_l p h || one_r p h)
      → (two ≐ λ p h. two_l p h || two_r p h)
      → (done ≐ λ p h. sat p h || (one p h || two p h))
      → WiredClause (both l r) S K sat one two
  wired_then : {l r : Clause} {S K start go sat_l one_l two_l sat_r one_r two_r one two : Signal}
      → WiredClause l S K sat_l one_l two_l
      → HandsOver sat_l K start go
      → WiredClause r start go sat_r one_r two_r
      → (one ≐ λ p h. one_l p h || one_r p h)
      → (two ≐ λ p h. two_l p h || two_r p h)
      → WiredClause (then l r) S K sat_r one two
  wired_repair : {l r : Clause} {S K fired start go sat_l one_l two_l sat_r one_r two_r sat : Signal}
      → WiredClause l S K sat_l one_l two_l
      → (fired ≐ λ p h. one_l p h || two_l p h)
      → HandsOver fired K start go
      → WiredClause r start go sat_r one_r two_r
      → (sat ≐ λ p h. sat_l p h || sat_r p h)
      → WiredClause (repair l r) S K sat one_r two_r
  wired_repeat : {c : Clause} {S K again start go sat_c one two sat : Signal}
      → HandsOver sat_c K again go
      → (start ≐ λ p h. S p h || again p h)
      → WiredClause c start go sat_c one two
      → (sat ≐ λ p h. false)
      → WiredClause (repeat c) S K sat one two
  wired_when : {e : Expression} {c : Clause} {S K start go end live reading sat_c one two sat : Signal}
      → WiredExpression e S go end live
      → HandsOver end K start go
      → WiredClause c start go sat_c one two
      → (reading ≐ λ p h. S p h || (go p h && at live h))
      → (sat ≐ λ p h. sat_c p h || (reading p h && not (end p h || live p h)))
      → WiredClause (when e c) S K sat one two
  wired_until : {c : Clause} {e : Expression} {S K go done reads end live sat_c one two sat : Signal}
      → UntilDone done K go
      → Remembers S go reads
      → WiredExpression e reads go end live
      → WiredClause c S go sat_c one two
      → (sat ≐ λ p h. sat_c p h || (end p h && not (one p h || two p h)))
      → (done ≐ λ p h. sat p h || (one p h || two p h))
      → WiredClause (until c e) S K sat one two
