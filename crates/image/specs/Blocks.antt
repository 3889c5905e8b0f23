-- The rows of a clause and of an expression.
-- The rows of a tree are a block from row b on. It is told by two rows when it reads: S is true in a period in which it begins to read,
-- K in a period in which it goes on from the period before. S and K of a clause, and of an expression under `when`, are never both true; the
-- expression of an `until` begins to read in every period in which the `until` reads. A block gives out rows: of a clause, whether it is
-- satisfied in this very period, or violated with party 1, with party 2 to blame; of an expression, whether a list of its set ends in this
-- period, and whether one that has begun may still go on. (The image's own S is the row `sat` of the whole clause.)
use Rattle.std.specs.Prelude.{ℕ, zero, suc, ◌-◌, cond, List, ◌∷◌}
use Rattle.periods.specs.declared.Party.{Party}
use Rattle.periods.specs.declared.Party.TheVariants.{One as party1, Two as party2}
use Rattle.periods.specs.Periods.{other}
use Rattle.layout.specs.Rows.{Row, attempt, negation, conjunction, disjunction, previous}
use Rattle.contract.specs.Expressions.{Atom, any, tries, idle, succeeds, fails, Expression, atom, seq, or, star, holds_empty}
use Rattle.contract.specs.Meaning.{only, both_parties, Literal, duty, ban, power, Clause, literal, deadline, both, then, repair, repeat, when, until, tested_first}
use Rattle.grammar.specs.declared.Kind.TheVariants as Kinds
use Rattle.image.specs.Widths.{never_row, period_rows, ◌⊹◌, after_window, inside, after_expression, after_clause}

-- ---- rows that several kinds have, from row b on; what follows them is told where the rows stand that it needs

-- What goes on goes on until `done`: row `go` is K unless `done` was true in the period before.
abbrev pub until_done : (done K b : ℕ) → (rest : (go : ℕ) → List Row) → List Row
until_done done K b rest = previous done ∷ negation b ∷ conjunction K (b ⊹ 1) ∷ rest (b ⊹ 2)

-- One part hands over to another in the period after `fired`: row `start` is K where `fired` was true in the period before, row `go` is K
-- where it was not.
abbrev pub hand_over : (fired K b : ℕ) → (rest : (start go : ℕ) → List Row) → List Row
hand_over fired K b rest = previous fired ∷ conjunction K b ∷ negation b ∷ conjunction K (b ⊹ 2) ∷ rest (b ⊹ 1) (b ⊹ 3)

-- Where a list has ended another may follow: row `start` is true where S is, and where K is and `ended` was true in the period before. It is the
-- last of these rows.
abbrev pub join_row : (b : ℕ) → ℕ
join_row b = b ⊹ 2

abbrev pub join_on : (ended S K b : ℕ) → (rest : (start : ℕ) → List Row) → List Row
join_on ended S K b rest = previous ended ∷ conjunction K b ∷ disjunction (b ⊹ 1) S ∷ rest (join_row b)

-- What was true stays true: row `kept` is true where `now` is, and where `go` is and `kept` was in the period before.
abbrev pub remember : (now go b : ℕ) → (rest : (kept : ℕ) → List Row) → List Row
remember now go b rest = previous (b ⊹ 2) ∷ conjunction go b ∷ disjunction (b ⊹ 1) now ∷ rest (b ⊹ 2)

-- ---- expressions

-- the row that tells that a list of the set ends now
unfoldable pub end_row : Expression → (b S : ℕ) → ℕ
end_row (atom any) b S = S
end_row (atom (tries p a)) b S = b ⊹ 1
end_row (atom (idle p a)) b S = b ⊹ 2
end_row (atom (succeeds a)) b S = b ⊹ 3
end_row (atom (fails a)) b S = b ⊹ 4
end_row (seq l r) b S = after_expression l (after_expression r (inside Kinds.Seq b))
end_row (or l r) b S = after_expression l (after_expression r (inside Kinds.Or b))
end_row (star e) b S = end_row e (inside Kinds.Star b) (join_row b)

-- the row that tells that a list which has begun may still go on
unfoldable pub live_row : Expression → (b : ℕ) → ℕ
live_row (atom x) b = never_row
live_row (seq l r) b = after_expression l (after_expression r (inside Kinds.Seq b)) ⊹ 2
live_row (or l r) b = after_expression l (after_expression r (inside Kinds.Or b)) ⊹ 1
live_row (star e) b = after_expression e (inside Kinds.Star b)

abbrev pub atom_rows : Atom → (b S : ℕ) → List Row → List Row
atom_rows any b S rest = rest
atom_rows (tries p a) b S rest = attempt p a ∷ conjunction S b ∷ rest
atom_rows (idle p a) b S rest = attempt p a ∷ negation b ∷ conjunction S (b ⊹ 1) ∷ rest
atom_rows (succeeds a) b S rest = attempt party1 a ∷ attempt party2 a ∷ conjunction b (b ⊹ 1) ∷ conjunction S (b ⊹ 2) ∷ rest
atom_rows (fails a) b S rest =
    attempt party1 a ∷ attempt party2 a ∷ conjunction b (b ⊹ 1) ∷ negation (b ⊹ 2) ∷ conjunction S (b ⊹ 3) ∷ rest

-- a row where the expression holds the empty list, and otherwise the row that is never true
abbrev pub if_empty : Expression → ℕ → ℕ
if_empty e x = cond (holds_empty e) x never_row

-- The block of an expression. `right`, `left` and `part` are the first rows of the operands' blocks, n is the first row after them; the right
-- operand's rows stand first.
-- seq: a list of r starts where one of l has ended, and at once where l holds the empty list. The whole may go on in l, in r, or from where l has
-- ended, since every expression holds a list that is not empty.
-- star: a list of e starts with the whole and wherever one has ended.
unfoldable pub expression_rows : Expression → (b S K : ℕ) → List Row → List Row
expression_rows (atom x) b S K rest = atom_rows x b S rest
expression_rows (seq l r) b S K rest =
    let right = inside Kinds.Seq b in
    let left = after_expression r right in
    let n = after_expression l left in
    let end_l = end_row l left S in
    join_on end_l (if_empty l S) K b λ start.
    expression_rows r right start K
    (expression_rows l left S K
    (disjunction (end_row r right start) (if_empty r end_l)
    ∷ disjunction (live_row l left) (live_row r right) ∷ disjunction (n ⊹ 1) end_l ∷ rest))
expression_rows (or l r) b S K rest =
    let right = inside Kinds.Or b in
    let left = after_expression r right in
    expression_rows r right S K
    (expression_rows l left S K
    (disjunction (end_row l left S) (end_row r right S) ∷ disjunction (live_row l left) (live_row r right) ∷ rest))
expression_rows (star e) b S K rest =
    let part = inside Kinds.Star b in
    let end = end_row (star e) b S in
    join_on end S K b λ start.
    expression_rows e part start K
    (disjunction (live_row e part) end ∷ rest)

-- ---- clauses

-- the rows that tell of a clause that it is satisfied now, and violated now with party 1, with party 2 to blame
pub record Outputs : Type 0 where
  pub sat : ℕ
  pub one : ℕ
  pub two : ℕ

abbrev outputs : (sat one two : ℕ) → Outputs
outputs s x y = record { sat = s; one = x; two = y }

-- the outputs of a literal and of a deadline: the party p that is tested first to blame, or the other
abbrev pub blaming : Party → (sat own others : ℕ) → Outputs
blaming party1 s x y = outputs s x y
blaming party2 s x y = outputs s y x

abbrev pub literal_outputs : Literal → (b : ℕ) → Outputs
literal_outputs (duty o) b = blaming (tested_first (duty o)) (b ⊹ 3) (b ⊹ 5) (b ⊹ 7)
literal_outputs (ban p) b = blaming p (b ⊹ 5) (b ⊹ 3) never_row
literal_outputs (power p) b = blaming p (b ⊹ 6) never_row (b ⊹ 4)

-- the first row after those of a deadline's window
abbrev pub window_end : (window b : ℕ) → ℕ
window_end d b = after_window (d - 1) (inside Kinds.Deadline b)

-- where the block of a clause that starts at row b gives them out
unfoldable pub outputs_of : Clause → (b : ℕ) → Outputs
outputs_of (literal l a) b = literal_outputs l b
outputs_of (deadline p a d) b =
    let n = window_end d b in
    blaming p (n ⊹ 2) (n ⊹ 4) (n ⊹ 5)
outputs_of (both l r) b =
    let n = after_clause l (after_clause r (inside Kinds.Both b)) in
    outputs (n ⊹ 6) (n ⊹ 7) (n ⊹ 8)
outputs_of (then l r) b =
    let right = inside Kinds.Then b in
    let n = after_clause l (after_clause r right) in
    outputs (outputs_of r right).sat n (n ⊹ 1)
outputs_of (repair l r) b =
    let right = inside Kinds.Repair b in
    let n = after_clause l (after_clause r right) in
    outputs (n ⊹ 1) (outputs_of r right).one (outputs_of r right).two
outputs_of (repeat c) b =
    let part = inside Kinds.Repeat b in
    outputs never_row (outputs_of c part).one (outputs_of c part).two
outputs_of (when e c) b =
    let right = inside Kinds.When b in
    let n = after_expression e (after_clause c right) in
    outputs (n ⊹ 6) (outputs_of c right).one (outputs_of c right).two
outputs_of (until c e) b =
    let left = after_expression e (inside Kinds.Until b) in
    outputs (after_clause c left ⊹ 3) (outputs_of c left).one (outputs_of c left).two

-- a duty of both parties differs from a duty of party 1 in the last row: party 2 is to blame if it doesn't try, whether or not party 1 does
abbrev pub literal_rows : Literal → (action : ℕ) → (b S : ℕ) → List Row → List Row
literal_rows (duty (only p)) a b S rest =
    attempt p a ∷ attempt (other p) a ∷ conjunction S b ∷ conjunction (b ⊹ 2) (b ⊹ 1)
    ∷ negation b ∷ conjunction S (b ⊹ 4) ∷ negation (b ⊹ 1) ∷ conjunction (b ⊹ 2) (b ⊹ 6) ∷ rest
literal_rows (duty both_parties) a b S rest =
    attempt party1 a ∷ attempt party2 a ∷ conjunction S b ∷ conjunction (b ⊹ 2) (b ⊹ 1)
    ∷ negation b ∷ conjunction S (b ⊹ 4) ∷ negation (b ⊹ 1) ∷ conjunction S (b ⊹ 6) ∷ rest
literal_rows (ban p) a b S rest =
    attempt p a ∷ attempt (other p) a ∷ conjunction S b ∷ conjunction (b ⊹ 2) (b ⊹ 1) ∷ negation (b ⊹ 3) ∷ conjunction S (b ⊹ 4) ∷ rest
literal_rows (power p) a b S rest =
    attempt p a ∷ attempt (other p) a ∷ conjunction S b ∷ negation (b ⊹ 1) ∷ conjunction (b ⊹ 2) (b ⊹ 3)
    ∷ negation (b ⊹ 4) ∷ conjunction S (b ⊹ 5) ∷ rest

-- The rows of n later periods of a window, from row c on. The duty is `missed` where it waits and not both try; it waits in the next period of
-- the window where the block goes on and it was missed in the period before. `unmet`: the block goes on and not both try. Of the window's
-- periods so far, `missed` tells that the duty is missed now in the last one, `earlier` that it was missed in the period before in one before that.
unfoldable pub window_rows : (n : ℕ) → (unmet earlier missed c : ℕ) → List Row → List Row
window_rows zero unmet earlier missed c rest = rest
window_rows (suc n) unmet earlier missed c rest =
    previous missed ∷ disjunction earlier c ∷ conjunction unmet c ∷ window_rows n unmet (c ⊹ 1) (c ⊹ 2) (c ⊹ period_rows) rest

-- row k of the last of n later periods whose rows start at row c; x where there is none
abbrev pub last_row : (n k x c : ℕ) → ℕ
last_row zero k x c = x
last_row (suc n) k x c = last_row n k (c ⊹ k) (c ⊹ period_rows)

-- The block of a deadline: the duty waits from the period in which it begins to read, as long as it is missed, to the last of its window.
-- `waits`: in any of these. `missed`: in the last.
abbrev pub deadline_rows : Party → (action window : ℕ) → (b S K : ℕ) → List Row → List Row
deadline_rows p a d b S K rest =
    let success = b ⊹ 2 in
    let failure = b ⊹ 3 in
    let c = inside Kinds.Deadline b in
    let n = window_end d b in
    let earlier = last_row (d - 1) 1 never_row c in
    let missed = last_row (d - 1) 2 (b ⊹ 5) c in
    let waits = n ⊹ 1 in
    attempt p a ∷ attempt (other p) a ∷ conjunction b (b ⊹ 1) ∷ negation success ∷ conjunction K failure ∷ conjunction S failure
    ∷ window_rows (d - 1) (b ⊹ 4) never_row (b ⊹ 5) c
    (conjunction K earlier ∷ disjunction S n ∷ conjunction waits success
    ∷ negation b ∷ conjunction missed (n ⊹ 3) ∷ conjunction missed b ∷ rest)

-- The block of a clause.
-- both: the halves read until the whole has decided; a satisfaction is remembered, a violation is the whole's at once.
-- then, repair: the right starts in the period after the left was satisfied, was violated; the left says nothing more.
-- repeat: the clause starts with the whole, and in the period after each of its satisfactions.
-- when: the expression reads until it is accepted, and then the clause starts. `reading`: it was neither accepted nor rejected before this period.
-- `alive`: what has been read is in the set, or begins a list of it. `rejected`: now.
-- until: clause and expression read until the whole has decided. `reads`: the whole began to read in this period or before, and had not decided before
-- it. The expression begins in every such period, and goes on. `accepted`: now, and the clause is not violated now.
unfoldable pub clause_rows : Clause → (b S K : ℕ) → List Row → List Row
clause_rows (literal l a) b S K rest = literal_rows l a b S rest
clause_rows (deadline p a d) b S K rest = deadline_rows p a d b S K rest
clause_rows (both l r) b S K rest =
    let right = inside Kinds.Both b in
    let left = after_clause r right in
    let n = after_clause l left in
    let out_l = outputs_of l left in
    let out_r = outputs_of r right in
    let out = outputs_of (both l r) b in
    let broken = n ⊹ 9 in
    let done = n ⊹ 10 in
    until_done done K b λ go.
    clause_rows r right S go
    (clause_rows l left S go
    (remember out_l.sat go n λ met_l.
    remember out_r.sat go (n ⊹ 3) λ met_r.
    conjunction met_l met_r ∷ disjunction out_l.one out_r.one ∷ disjunction out_l.two out_r.two
    ∷ disjunction out.one out.two ∷ disjunction out.sat broken ∷ rest))
clause_rows (then l r) b S K rest =
    let right = inside Kinds.Then b in
    let left = after_clause r right in
    let out_l = outputs_of l left in
    let out_r = outputs_of r right in
    hand_over out_l.sat K b λ start go. clause_rows r right start go
    (clause_rows l left S K
    (disjunction out_l.one out_r.one ∷ disjunction out_l.two out_r.two ∷ rest))
clause_rows (repair l r) b S K rest =
    let right = inside Kinds.Repair b in
    let left = after_clause r right in
    let out_l = outputs_of l left in
    let out_r = outputs_of r right in
    let broken = after_clause l left in
    hand_over broken K b λ start go. clause_rows r right start go
    (clause_rows l left S K
    (disjunction out_l.one out_l.two ∷ disjunction out_l.sat out_r.sat ∷ rest))
clause_rows (repeat c) b S K rest =
    let part = inside Kinds.Repeat b in
    hand_over (outputs_of c part).sat K b λ again go.
    disjunction S again ∷ clause_rows c part (b ⊹ 4) go rest
clause_rows (when e c) b S K rest =
    let right = inside Kinds.When b in
    let left = after_clause c right in
    let n = after_expression e left in
    let end = end_row e left S in
    let live = live_row e left in
    let reading = n ⊹ 2 in
    let alive = n ⊹ 3 in
    let rejected = n ⊹ 5 in
    hand_over end K b λ start go. clause_rows c right start go
    (expression_rows e left S go
    (previous live ∷ conjunction go n ∷ disjunction S (n ⊹ 1)
    ∷ disjunction end live ∷ negation alive ∷ conjunction reading (n ⊹ 4) ∷ disjunction (outputs_of c right).sat rejected ∷ rest))
clause_rows (until c e) b S K rest =
    let right = inside Kinds.Until b in
    let left = after_expression e right in
    let n = after_clause c left in
    let out_c = outputs_of c left in
    let out = outputs_of (until c e) b in
    let broken = n in
    let accepted = n ⊹ 2 in
    let done = n ⊹ 4 in
    until_done done K b λ go.
    remember S go (b ⊹ 3) λ reads.
    let end = end_row e right reads in
    expression_rows e right reads go
    (clause_rows c left S go
    (disjunction out_c.one out_c.two ∷ negation broken ∷ conjunction end (n ⊹ 1) ∷ disjunction out_c.sat accepted
    ∷ disjunction out.sat broken ∷ rest))
