-- How many rows a tree has, and that the rows which its block gives out stand among them.
use Prim.Native.Nat.{ℕ, zero, suc, ◌+◌, ◌*◌, ◌-◌, ◌≤◌, ◌<◌}
use native.Mathlib.Omega.{arith}
use mathlib.Core.Bool.{Bool, true, false, cond}
use mathlib.Core.List.{List}
use mathlib.Core.Path.{◌≡◌, refl}
use lib.Dec.{leb}
use lib.ListN.{length}
use borrow.Author.Tests.{leb-true}
use Rattle.periods.specs.declared.Party.{Party}
use Rattle.periods.specs.declared.Party.TheVariants.{One as party1, Two as party2}
use Rattle.layout.specs.Rows.{Row}
use Rattle.contract.specs.Expressions.{Atom, any, tries, idle, succeeds, fails, Expression, atom, seq, or, star, holds_empty}
use Rattle.contract.specs.Meaning.{only, both_parties, Literal, duty, ban, power, Clause, literal, deadline, both, then, repair, repeat, when, until, tested_first}
use Rattle.grammar.specs.declared.Kind.TheVariants as Kinds
use Rattle.grammar.specs.Trees.{Record}
use Rattle.grammar.specs.Spelling.{atom_record, literal_record, deadline_record, expression_records, records, windows}
use Rattle.grammar.proofs.Table.{of_all}
use Rattle.image.specs.Limits.{allowed_rows}
use Rattle.image.specs.Widths.{width, period_rows, later_periods, size, max_width, never_row, max_rows_for, ◌⊹◌, after_window, inside, after_record, expression_size, clause_size, fixed_rows, after_expression, after_clause}
use Rattle.image.specs.Blocks.{join_row, end_row, live_row, if_empty, expression_rows, Outputs, blaming, outputs_of, window_rows, last_row, clause_rows}
use Rattle.image.specs.Images.{rows_for}

-- ---- row numbers

-- the row k rows on from row b
pub ⊹-plus : (b k : ℕ) → b ⊹ k ≡ b + k
⊹-plus b zero = omega arith
⊹-plus b (suc k) = omega (arith, ⊹-plus b k)

-- the first row after those of n later periods of a window
pub after_window_lem : (n c : ℕ) → after_window n c ≡ c + period_rows * n
after_window_lem zero c = omega arith
after_window_lem (suc n) c = rw (after_window_lem n (c ⊹ period_rows)) (omega arith)

-- ---- how many rows

-- the first row after a record without operands, and after a tree's rows
after_record_lem : (r : Record) (b : ℕ) → after_record r (λ n. n) b ≡ b + size r
after_record_lem r b =
    let k = r.kind in
    omega (arith, ⊹-plus (after_window (later_periods r) (inside k b)) (width k).after, after_window_lem (later_periods r) (inside k b), ⊹-plus b (width k).before)

pub after_expression_lem : (e : Expression) (b : ℕ) → after_expression e b ≡ b + expression_size e
unfolding after_expression expression_size
after_expression_lem (atom x) b = after_record_lem (atom_record x) b
after_expression_lem (seq l r) b = rw (after_expression_lem l, after_expression_lem r) (omega arith)
after_expression_lem (or l r) b = rw (after_expression_lem l, after_expression_lem r) (omega arith)
after_expression_lem (star e) b = rw (after_expression_lem e) (omega arith)

pub after_clause_lem : (c : Clause) (b : ℕ) → after_clause c b ≡ b + clause_size c
unfolding after_clause clause_size
after_clause_lem (literal l a) b = after_record_lem (literal_record l a) b
after_clause_lem (deadline p a d) b = after_record_lem (deadline_record p a d) b
after_clause_lem (both l r) b = rw (after_clause_lem l, after_clause_lem r) (omega arith)
after_clause_lem (then l r) b = rw (after_clause_lem l, after_clause_lem r) (omega arith)
after_clause_lem (repair l r) b = rw (after_clause_lem l, after_clause_lem r) (omega arith)
after_clause_lem (repeat c) b = rw (after_clause_lem c) (omega arith)
after_clause_lem (when e c) b = rw (after_expression_lem e, after_clause_lem c) (omega arith)
after_clause_lem (until c e) b = rw (after_clause_lem c, after_expression_lem e) (omega arith)

-- its rows, with others after them
pub length_expression : (e : Expression) (b S K : ℕ) (rest : List Row) → length (expression_rows e b S K rest) ≡ expression_size e + length rest
unfolding expression_rows expression_size
length_expression (atom any) b S K rest = omega arith
length_expression (atom (tries p a)) b S K rest = omega arith
length_expression (atom (idle p a)) b S K rest = omega arith
length_expression (atom (succeeds a)) b S K rest = omega arith
length_expression (atom (fails a)) b S K rest = omega arith
length_expression (seq l r) b S K rest = rw (length_expression r, length_expression l) (omega arith)
length_expression (or l r) b S K rest = rw (length_expression r, length_expression l) (omega arith)
length_expression (star e) b S K rest = rw (length_expression e) (omega arith)

pub length_window : (n g e m c : ℕ) (rest : List Row) → length (window_rows n g e m c rest) ≡ period_rows * n + length rest
unfolding window_rows
length_window zero g e m c rest = omega arith
length_window (suc n) g e m c rest = rw (length_window n) (omega arith)

pub length_clause : (c : Clause) (b S K : ℕ) (rest : List Row) → length (clause_rows c b S K rest) ≡ clause_size c + length rest
unfolding clause_rows clause_size
length_clause (literal (duty (only p)) a) b S K rest = omega arith
length_clause (literal (duty both_parties) a) b S K rest = omega arith
length_clause (literal (ban p) a) b S K rest = omega arith
length_clause (literal (power p) a) b S K rest = omega arith
length_clause (deadline p a d) b S K rest = rw (length_window (d - 1)) (omega arith)
length_clause (both l r) b S K rest = rw (length_clause r, length_clause l) (omega arith)
length_clause (then l r) b S K rest = rw (length_clause r, length_clause l) (omega arith)
length_clause (repair l r) b S K rest = rw (length_clause r, length_clause l) (omega arith)
length_clause (repeat c) b S K rest = rw (length_clause c) (omega arith)
length_clause (when e c) b S K rest = rw (length_clause c, length_expression e) (omega arith)
length_clause (until c e) b S K rest = rw (length_expression e, length_clause c) (omega arith)

pub length-rows_for : (c : Clause) → length (rows_for c) ≡ clause_size c + fixed_rows
unfolding rows_for
length-rows_for c = rw (length_clause c) (omega arith)

-- no record has more rows than the widest kind and its window's
size-max : (r : Record) → size r ≤ max_width + period_rows * r.fields.last
size-max r =
    let w = width r.kind in
    omega (arith, leb-true (w.before + w.after) max_width (of_all (λ k. leb ((width k).before + (width k).after) max_width) refl r.kind))

atom_last : (x : Atom) → (atom_record x).fields.last ≡ 0
atom_last any = refl
atom_last (tries p a) = refl
atom_last (idle p a) = refl
atom_last (succeeds a) = refl
atom_last (fails a) = refl

literal_last : (l : Literal) (a : ℕ) → (literal_record l a).fields.last ≡ 0
literal_last (duty o) a = refl
literal_last (ban p) a = refl
literal_last (power p) a = refl

expression_max : (e : Expression) → expression_size e ≤ max_width * expression_records e
unfolding expression_size expression_records
expression_max (atom x) = omega (arith, size-max (atom_record x), atom_last x)
expression_max (seq l r) = omega (arith, expression_max l, expression_max r)
expression_max (or l r) = omega (arith, expression_max l, expression_max r)
expression_max (star e) = omega (arith, expression_max e)

clause_max : (c : Clause) → clause_size c ≤ max_width * records c + period_rows * windows c
unfolding clause_size records windows
clause_max (literal l a) = omega (arith, size-max (literal_record l a), literal_last l a)
clause_max (deadline p a d) = size-max (deadline_record p a d)
clause_max (both l r) = omega (arith, clause_max l, clause_max r)
clause_max (then l r) = omega (arith, clause_max l, clause_max r)
clause_max (repair l r) = omega (arith, clause_max l, clause_max r)
clause_max (repeat c) = omega (arith, clause_max c)
clause_max (when e c) = omega (arith, expression_max e, clause_max c)
clause_max (until c e) = omega (arith, clause_max c, expression_max e)

pub rows_max : (c : Clause) → length (rows_for c) ≤ max_rows_for (records c) (windows c)
rows_max c = omega (arith, length-rows_for c, clause_max c)

-- no more than every image buffer has room for
pub rows_allowed : (c : Clause) → length (rows_for c) ≤ allowed_rows (records c) (windows c)
rows_allowed c = omega (arith, rows_max c)

-- ---- the rows that a block gives out stand before its end

pub record ExpressionInside (e : Expression) (b S : ℕ) : Type 0 where
  pub forward : b ≤ after_expression e b
  pub end-inside : end_row e b S < after_expression e b
  pub live_inside : live_row e b < after_expression e b

pub inside_expression : (e : Expression) (b S : ℕ) → S < b → ExpressionInside e b S
unfolding end_row live_row after_expression
inside_expression (atom any) b S h = omega arith
inside_expression (atom (tries p a)) b S h = omega arith
inside_expression (atom (idle p a)) b S h = omega arith
inside_expression (atom (succeeds a)) b S h = omega arith
inside_expression (atom (fails a)) b S h = omega arith
inside_expression (seq l r) b S h = omega (arith, after_expression_lem l (after_expression r (inside Kinds.Seq b)), after_expression_lem r (inside Kinds.Seq b))
inside_expression (or l r) b S h = omega (arith, after_expression_lem l (after_expression r (inside Kinds.Or b)), after_expression_lem r (inside Kinds.Or b))
inside_expression (star e) b S h = omega (arith, inside_expression e (inside Kinds.Star b) (join_row b) (omega arith))

pub inside-if_empty : (e : Expression) (x m : ℕ) → x < m → if_empty e x < m
inside-if_empty e x m h = each (holds_empty e)
  where
    each : (t : Bool) → cond t x never_row < m
    each true = h
    each false = omega arith

pub record ClauseInside (c : Clause) (b : ℕ) (o : Outputs) : Type 0 where
  pub forward : b ≤ after_clause c b
  pub sat_inside : o.sat < after_clause c b
  pub one_inside : o.one < after_clause c b
  pub two_inside : o.two < after_clause c b

inside_literal : (p : Party) {c : Clause} {b s x y : ℕ} → b ≤ after_clause c b
    → (s < after_clause c b) × (x < after_clause c b) × (y < after_clause c b) → ClauseInside c b (blaming p s x y)
inside_literal party1 h i = omega arith
inside_literal party2 h i = omega arith

pub inside_clause : (c : Clause) (b : ℕ) → 0 < b → ClauseInside c b (outputs_of c b)
unfolding outputs_of after_clause
inside_clause (literal (duty o) a) b h = inside_literal (tested_first (duty o)) (omega arith) (omega arith)
inside_clause (literal (ban p) a) b h = inside_literal p (omega arith) (omega arith)
inside_clause (literal (power p) a) b h = inside_literal p (omega arith) (omega arith)
inside_clause (deadline p a d) b h = let e = after_window_lem (d - 1) (inside Kinds.Deadline b) in inside_literal p (omega arith) (omega arith)
inside_clause (both l r) b h = omega (arith, after_clause_lem l (after_clause r (inside Kinds.Both b)), after_clause_lem r (inside Kinds.Both b))
inside_clause (then l r) b h = omega (arith, inside_clause r (inside Kinds.Then b) (omega arith), after_clause_lem l (after_clause r (inside Kinds.Then b)))
inside_clause (repair l r) b h = omega (arith, inside_clause r (inside Kinds.Repair b) (omega arith), after_clause_lem l (after_clause r (inside Kinds.Repair b)))
inside_clause (repeat c) b h = omega (arith, inside_clause c (inside Kinds.Repeat b) (omega arith))
inside_clause (when e c) b h = omega (arith, inside_clause c (inside Kinds.When b) (omega arith), after_expression_lem e (after_clause c (inside Kinds.When b)))
inside_clause (until c e) b h =
    let p = after_expression_lem e (inside Kinds.Until b) in
    omega (arith, inside_clause c (after_expression e (inside Kinds.Until b)) (omega arith))

-- the rows of a window's last period stand before the window's end
pub inside_window : (n k x c : ℕ) → k < period_rows → x < c → last_row n k x c < after_window n c
inside_window zero k x c h i = i
inside_window (suc n) k x c h i = inside_window n k (c ⊹ k) (c ⊹ period_rows) h (omega (arith, ⊹-plus c k))

-- of two clauses, the right one's rows first
pub inside_two : {A : Type 0} (l r : Clause) (b : ℕ) → 0 < b
    → (ClauseInside r b (outputs_of r b) → ClauseInside l (after_clause r b) (outputs_of l (after_clause r b)) → A) → A
inside_two l r b h k =
    let in_r = inside_clause r b h in
    k in_r (inside_clause l (after_clause r b) (omega arith))
