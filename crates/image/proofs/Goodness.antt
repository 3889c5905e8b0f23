-- The image of a contract is good.
use Prim.Native.Nat.{ℕ, zero, suc, ◌+◌, ◌-◌, ◌^◌, ◌≤◌, ◌<◌}
use native.Mathlib.Nat.{add-zero, zero-add}
use native.Mathlib.Omega.{arith}
use mathlib.Core.Bool.{true}
use mathlib.Core.List.{List, [], ◌∷◌}
use mathlib.Core.Path.{◌≡◌, refl}
use lib.ListN.{length, get_or}
use borrow.Author.Tests.{lt-ltb}
use Rattle.periods.specs.Limits.{actions}
use Rattle.layout.specs.Rows.{Row, never, initial, attempt, negation, conjunction, disjunction, previous, Fits, names_rows}
use Rattle.layout.proofs.ImageBytes.{Writable}
use Rattle.contract.specs.Expressions.{any, tries, idle, succeeds, fails, Expression, atom, seq, or, star}
use Rattle.contract.specs.Meaning.{only, both_parties, duty, ban, power, Clause, literal, deadline, both, then, repair, repeat, when, until}
use Rattle.grammar.specs.Limits.{max_records}
use Rattle.grammar.specs.declared.Kind.TheVariants as Kinds
use Rattle.grammar.specs.declared.Kind.{Kind}
use Rattle.grammar.specs.Spelling.{atom_record, literal_record, deadline_record, records, ExpressionInRange, InRange}
use Rattle.grammar.proofs.Fields.{allowed_action}
use Rattle.grammar.proofs.WindowSum.{windows-max}
use Rattle.image.specs.Widths.{width, never_row, period_rows, ◌⊹◌, after_window, inside, fixed_rows, after_expression, after_clause}
use Rattle.image.specs.Blocks.{join_row, end_row, expression_rows, outputs_of, window_rows, clause_rows}
use Rattle.image.specs.Images.{rows_for, image}
use Rattle.image.proofs.Sizes.{after_window_lem, after_clause_lem, length-rows_for, rows_max, inside_expression, inside-if_empty, inside_clause, inside_window, inside_two}

-- ---- good rows

-- row k of an image of n rows is good: it names an action that there is, lower rows, or any row of the image
abbrev GoodAt : (n k : ℕ) → Row → Type 0
GoodAt n k never = Unit {0}
GoodAt n k initial = Unit {0}
GoodAt n k (attempt p a) = a < actions
GoodAt n k (negation x) = x < k
GoodAt n k (conjunction x y) = (x < k) × (y < k)
GoodAt n k (disjunction x y) = (x < k) × (y < k)
GoodAt n k (previous x) = x < n

good_fits : (n k : ℕ) → k < n → n ≤ 256 ^ 2 → (r : Row) → GoodAt n k r → Fits r
good_fits n k h i never g = g
good_fits n k h i initial g = g
good_fits n k h i (attempt p a) g = g
good_fits n k h i (negation x) g = omega arith
good_fits n k h i (conjunction x y) g = omega arith
good_fits n k h i (disjunction x y) g = omega arith
good_fits n k h i (previous x) g = omega arith

good_names : (n k : ℕ) (r : Row) → GoodAt n k r → names_rows k n r ≡ true
good_names n k never g = refl
good_names n k initial g = refl
good_names n k (attempt p a) g = refl
good_names n k (negation x) g = lt-ltb x k g
good_names n k (conjunction x y) g = rw (lt-ltb x k g.0, lt-ltb y k g.1)
good_names n k (disjunction x y) g = rw (lt-ltb x k g.0, lt-ltb y k g.1)
good_names n k (previous x) g = lt-ltb x n g

-- the rows of a list are good, the first of them being row b
data GoodFrom (n : ℕ) : (b : ℕ) → List Row → Type 0 where
  end : {b : ℕ} → GoodFrom n b []
  next : {b : ℕ} {r : Row} {rs : List Row} → GoodAt n b r → GoodFrom n (suc b) rs → GoodFrom n b (r ∷ rs)

good_at : {n b : ℕ} {rs : List Row} → GoodFrom n b rs → (k : ℕ) → k < length rs → GoodAt n (b + k) (get_or rs k never)
good_at end k h = absurd (omega arith)
good_at (next g gs) zero h = rw add-zero g
good_at {b = b} (next g gs) (suc k) h =
    let e : b + suc k ≡ suc b + k = omega arith in
    rw e (good_at gs k (omega arith))

-- the first m of them are, and those after these are
abbrev First : (n b m : ℕ) → List Row → Type 0
First n b zero rs = Unit {0}
First n b (suc m) [] = Unit {0}
First n b (suc m) (r ∷ rs) = GoodAt n b r × First n (suc b) m rs

abbrev Rest : (n b m : ℕ) → List Row → Type 0
Rest n b zero rs = GoodFrom n b rs
Rest n b (suc m) [] = Unit {0}
Rest n b (suc m) (r ∷ rs) = Rest n (suc b) m rs

first : {n b : ℕ} {rs : List Row} (m : ℕ) → First n b m rs → Rest n b m rs → GoodFrom n b rs
first zero f g = g
first {rs = []} (suc m) f g = end
first {rs = r ∷ rs} (suc m) f g = next f.0 (first m f.1 g)

-- a record's own rows, before and after those of its operands
before : (k : Kind) {n b : ℕ} {rs : List Row} → First n b (width k).before rs → Rest n b (width k).before rs → GoodFrom n b rs
before k = first (width k).before

after : (k : Kind) {n b : ℕ} {rs : List Row} → First n b (width k).after rs → Rest n b (width k).after rs → GoodFrom n b rs
after k = first (width k).after

-- the rows that tell a block when it reads stand before it, and the block stands in the image
record InPlace (n b S K after : ℕ) : Type 0 where
  begins : S < b
  goes_on : K < b
  ends : after ≤ n

module _ (n : ℕ) where
  good_expression : (e : Expression) {b S K : ℕ} {rest : List Row} → ExpressionInRange e → InPlace n b S K (after_expression e b)
      → GoodFrom n (after_expression e b) rest → GoodFrom n b (expression_rows e b S K rest)
  unfolding ExpressionInRange after_expression end_row expression_rows
  good_expression (atom any) i h g = g
  good_expression (atom (tries p a)) i h g =
      let j = allowed_action (atom_record (tries p a)) i in
      before Kinds.Tries (omega arith) g
  good_expression (atom (idle p a)) i h g =
      let j = allowed_action (atom_record (idle p a)) i in
      before Kinds.Idle (omega arith) g
  good_expression (atom (succeeds a)) i h g =
      let j = allowed_action (atom_record (succeeds a)) i in
      before Kinds.Succeeds (omega arith) g
  good_expression (atom (fails a)) i h g =
      let j = allowed_action (atom_record (fails a)) i in
      before Kinds.Fails (omega arith) g
  good_expression (seq l r) {b} {S} i h g =
      let in_r = inside_expression r (inside Kinds.Seq b) (join_row b) (omega arith) in
      let in_l = inside_expression l (after_expression r (inside Kinds.Seq b)) S (omega arith) in
      let whole = inside-if_empty l S b h.begins in
      let ended = inside-if_empty r _ _ in_l.end-inside in
      before Kinds.Seq (omega arith) (good_expression r i.1 (omega arith) (good_expression l i.0 (omega arith) (after Kinds.Seq (omega arith) g)))
  good_expression (or l r) {b} {S} i h g =
      let in_r = inside_expression r (inside Kinds.Or b) S h.begins in
      let in_l = inside_expression l (after_expression r (inside Kinds.Or b)) S (omega arith) in
      good_expression r i.1 (omega arith) (good_expression l i.0 (omega arith) (after Kinds.Or (omega arith) g))
  good_expression (star e) {b} i h g =
      let parts = inside_expression e (inside Kinds.Star b) (join_row b) (omega arith) in
      before Kinds.Star (omega arith) (good_expression e i (omega arith) (after Kinds.Star (omega arith) g))

  good_window : (m : ℕ) {g e x c : ℕ} {rest : List Row} → (g < c) × (e < c) × (x < c) → after_window m c ≤ n
      → GoodFrom n (after_window m c) rest → GoodFrom n c (window_rows m g e x c rest)
  unfolding window_rows
  good_window zero h i r = r
  good_window (suc m) {c = c} h i r =
      let l = after_window_lem m (c ⊹ period_rows) in
      first period_rows (omega arith) (good_window m (omega arith) i r)

  good_clause : (c : Clause) {b S K : ℕ} {rest : List Row} → InRange c → InPlace n b S K (after_clause c b)
      → GoodFrom n (after_clause c b) rest → GoodFrom n b (clause_rows c b S K rest)
  unfolding InRange after_clause outputs_of clause_rows
  good_clause (literal (duty (only p)) a) i h g =
      let j = allowed_action (literal_record (duty (only p)) a) i in
      before Kinds.Duty (omega arith) g
  good_clause (literal (duty both_parties) a) i h g =
      let j = allowed_action (literal_record (duty both_parties) a) i in
      before Kinds.Duty (omega arith) g
  good_clause (literal (ban p) a) i h g =
      let j = allowed_action (literal_record (ban p) a) i in
      before Kinds.Ban (omega arith) g
  good_clause (literal (power p) a) i h g =
      let j = allowed_action (literal_record (power p) a) i in
      before Kinds.Power (omega arith) g
  good_clause (deadline p a d) {b} i h g =
      let j = allowed_action (deadline_record p a d) i in
      let l = after_window_lem (d - 1) (inside Kinds.Deadline b) in
      let earlier = inside_window (d - 1) 1 never_row (inside Kinds.Deadline b) (omega arith) (omega arith) in
      let missed = inside_window (d - 1) 2 (b ⊹ 5) (inside Kinds.Deadline b) (omega arith) (omega arith) in
      before Kinds.Deadline (omega arith) (good_window (d - 1) (omega arith) (omega arith) (after Kinds.Deadline (omega arith) g))
  good_clause (both l r) {b} i h g =
      inside_two l r (inside Kinds.Both b) (omega arith) (λ in_r in_l.
      before Kinds.Both (omega arith) (good_clause r i.1 (omega arith) (good_clause l i.0 (omega arith) (after Kinds.Both (omega arith) g))))
  good_clause (then l r) {b} i h g =
      inside_two l r (inside Kinds.Then b) (omega arith) (λ in_r in_l.
      before Kinds.Then (omega arith) (good_clause r i.1 (omega arith) (good_clause l i.0 (omega arith) (after Kinds.Then (omega arith) g))))
  good_clause (repair l r) {b} i h g =
      inside_two l r (inside Kinds.Repair b) (omega arith) (λ in_r in_l.
      before Kinds.Repair (omega arith) (good_clause r i.1 (omega arith) (good_clause l i.0 (omega arith) (after Kinds.Repair (omega arith) g))))
  good_clause (repeat c) {b} i h g =
      let parts = inside_clause c (inside Kinds.Repeat b) (omega arith) in
      before Kinds.Repeat (omega arith) (good_clause c i (omega arith) g)
  good_clause (when e c) {b} {S} i h g =
      let in_r = inside_clause c (inside Kinds.When b) (omega arith) in
      let in_l = inside_expression e (after_clause c (inside Kinds.When b)) S (omega arith) in
      before Kinds.When (omega arith) (good_clause c i.1 (omega arith) (good_expression e i.0 (omega arith) (after Kinds.When (omega arith) g)))
  good_clause (until c e) {b} {S} i h g =
      let in_r = inside_expression e (inside Kinds.Until b) (b ⊹ 5) (omega arith) in
      let in_l = inside_clause c (after_expression e (inside Kinds.Until b)) (omega arith) in
      before Kinds.Until (omega arith)
      (good_expression e {rest = clause_rows c (after_expression e (inside Kinds.Until b)) S (b ⊹ 2) _} i.1 (omega arith)
      (good_clause c i.0 (omega arith) (after Kinds.Until (omega arith) g)))

-- ---- the image

module _ (c : Clause) (i : InRange c) where
  good_rows : GoodFrom (length (rows_for c)) 0 (rows_for c)
  unfolding rows_for
  good_rows =
      let l = length-rows_for c in
      let a = after_clause_lem c fixed_rows in
      first fixed_rows (omega arith) (good_clause _ c i (omega arith) end)

  each_good : (k : ℕ) → k < length (rows_for c) → GoodAt (length (rows_for c)) k (get_or (rows_for c) k never)
  each_good k h = rw zero-add at (good_at good_rows k h)

  pub writable : records c ≤ max_records → Writable (image c)
  unfolding image
  writable h =
      let l = length-rows_for c in
      let m = rows_max c in
      let d = windows-max c i in
      let a = after_clause_lem c fixed_rows in
      let o = inside_clause c fixed_rows (omega arith) in
      record {
        some_rows = omega arith;
        few_rows = omega arith;
        fits = λ k j. good_fits (length (rows_for c)) k j (omega arith) (get_or (rows_for c) k never) (each_good k j);
        names = λ k j. good_names (length (rows_for c)) k (get_or (rows_for c) k never) (each_good k j);
        small_S = omega arith;
        small_V1 = omega arith;
        small_V2 = omega arith;
      }
