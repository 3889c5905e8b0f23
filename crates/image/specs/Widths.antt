-- How many rows each record has, and where the rows of a tree start and end. Which rows an image has is free: "they follow from the
-- contract's bytes alone, form a good image and meet demand 3" (Document 01, "Contracts and examples"). The room that there must be for them is in
-- Limits.antt.
use Rattle.std.specs.Prelude.{ℕ, zero, suc, ◌+◌, ◌*◌, ◌-◌}
use Rattle.contract.specs.Expressions as E
use Rattle.contract.specs.Expressions.{Expression, atom}
use Rattle.contract.specs.Meaning as M
use Rattle.contract.specs.Meaning.{Clause, literal}
use Rattle.grammar.specs.declared.Kind.{Kind}
use Rattle.grammar.specs.declared.Kind.TheVariants.{Duty as duty, Ban as ban, Power as power, Both as both, Then as then, Repair as repair, Repeat as repeat, When as when, Until as until, Deadline as deadline, Any as any, Tries as tries, Idle as idle, Succeeds as succeeds, Fails as fails, Seq as seq, Or as or, Star as star}
use Rattle.grammar.specs.Trees.{Record}
use Rattle.grammar.specs.Spelling.{plain_record, atom_record, literal_record, deadline_record}

-- A record's own rows: so many stand before its operands' rows, and so many after them.
pub record Width : Type 0 where
  pub before : ℕ
  pub after : ℕ

abbrev rows : ℕ → ℕ → Width
rows m n = record { before = m; after = n }

abbrev pub width : Kind → Width
width duty = rows 8 0
width ban = rows 6 0
width power = rows 7 0
width both = rows 3 11
width then = rows 4 2
width repair = rows 4 2
width repeat = rows 5 0
width when = rows 4 7
width until = rows 6 5
width deadline = rows 6 6
width any = rows 0 0
width tries = rows 2 0
width idle = rows 3 0
width succeeds = rows 4 0
width fails = rows 5 0
width seq = rows 3 3
width or = rows 0 2
width star = rows 3 1

-- A window's rows stand where operands' rows would: so many for each of its periods after the first.
abbrev pub period_rows : ℕ
period_rows = 3

-- how many periods those are: the last byte of a deadline is its window, and 0 in every other kind
abbrev pub later_periods : Record → ℕ
later_periods r = r.fields.last - 1

-- how many rows of its own a record has
abbrev pub size : Record → ℕ
size r = (width r.kind).before + period_rows * later_periods r + (width r.kind).after

-- no record has more rows of its own, those of a window not counted
abbrev pub max_width : ℕ
max_width = 14

-- the rows of a tree: the sum of the sizes of its records
unfoldable pub expression_size : Expression → ℕ
expression_size (atom x) = size (atom_record x)
expression_size (E.seq l r) = expression_size l + expression_size r + size (plain_record seq)
expression_size (E.or l r) = expression_size l + expression_size r + size (plain_record or)
expression_size (E.star e) = expression_size e + size (plain_record star)

unfoldable pub clause_size : Clause → ℕ
clause_size (literal l a) = size (literal_record l a)
clause_size (M.deadline p a d) = size (deadline_record p a d)
clause_size (M.both l r) = clause_size l + clause_size r + size (plain_record both)
clause_size (M.then l r) = clause_size l + clause_size r + size (plain_record then)
clause_size (M.repair l r) = clause_size l + clause_size r + size (plain_record repair)
clause_size (M.repeat c) = clause_size c + size (plain_record repeat)
clause_size (M.when e c) = expression_size e + clause_size c + size (plain_record when)
clause_size (M.until c e) = clause_size c + expression_size e + size (plain_record until)

-- the first rows of every image, which no record has: one that is never true, one true in period 1 only, and one true in all the others
abbrev pub never_row : ℕ
never_row = 0

abbrev pub first_row : ℕ
first_row = 1

abbrev pub later_row : ℕ
later_row = 2

abbrev pub fixed_rows : ℕ
fixed_rows = 3

-- a contract of so many records, with windows of so many periods in all, has no more rows than this
abbrev pub max_rows_for : (records windows : ℕ) → ℕ
max_rows_for n d = max_width * n + period_rows * d + fixed_rows

-- ---- row numbers

-- the row k rows on from row b: b + k by recursion on k, so that row numbers agree by computation
infixl 20 ◌⊹◌
abbrev pub ◌⊹◌ : ℕ → ℕ → ℕ
b ⊹ zero = b
b ⊹ suc k = suc (b ⊹ k)

-- the first row after those of n later periods of a window that start at row c
abbrev pub after_window : (n c : ℕ) → ℕ
after_window zero c = c
after_window (suc n) c = after_window n (c ⊹ period_rows)

-- the first row of the operands, or of the window, of a record whose rows start at row b
abbrev pub inside : Kind → ℕ → ℕ
inside k b = b ⊹ (width k).before

-- the first row after a record's rows and those of its operands, where m gives the row after the operands' rows
abbrev pub after_record : Record → (ℕ → ℕ) → ℕ → ℕ
after_record r m b = m (after_window (later_periods r) (inside r.kind b)) ⊹ (width r.kind).after

-- The first row after the rows of a tree that start at row b. The right operand's rows stand before the left operand's.
unfoldable pub after_expression : Expression → ℕ → ℕ
after_expression (atom x) b = after_record (atom_record x) (λ n. n) b
after_expression (E.seq l r) b = after_record (plain_record seq) (λ n. after_expression l (after_expression r n)) b
after_expression (E.or l r) b = after_record (plain_record or) (λ n. after_expression l (after_expression r n)) b
after_expression (E.star e) b = after_record (plain_record star) (after_expression e) b

unfoldable pub after_clause : Clause → ℕ → ℕ
after_clause (literal l a) b = after_record (literal_record l a) (λ n. n) b
after_clause (M.deadline p a d) b = after_record (deadline_record p a d) (λ n. n) b
after_clause (M.both l r) b = after_record (plain_record both) (λ n. after_clause l (after_clause r n)) b
after_clause (M.then l r) b = after_record (plain_record then) (λ n. after_clause l (after_clause r n)) b
after_clause (M.repair l r) b = after_record (plain_record repair) (λ n. after_clause l (after_clause r n)) b
after_clause (M.repeat c) b = after_record (plain_record repeat) (after_clause c) b
after_clause (M.when e c) b = after_record (plain_record when) (λ n. after_expression e (after_clause c n)) b
after_clause (M.until c e) b = after_record (plain_record until) (λ n. after_clause c (after_expression e n)) b
