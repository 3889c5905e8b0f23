-- Rows as three numbers, each kind's own rows by names, and the rows that they are.
use Rattle.std.specs.Prelude.{ℕ, ◌*◌, List, [], ◌∷◌, ◌++◌, map}
use Rattle.std.proofs.lemmas.List.Edits.{sets}
use Rattle.layout.specs.Limits.{row_bytes}
use Rattle.layout.specs.declared.RowKind.{RowKind}
use Rattle.layout.specs.declared.RowKind.TheVariants.{Attempt, Not, And, Or, Previous}
use Rattle.layout.specs.Rows.{Row, kind, field_x, field_y, row_record}
use Rattle.layout.specs.Fields.{kind_number}
use Rattle.grammar.specs.declared.Kind.{Kind}
use Rattle.grammar.specs.declared.Kind.TheVariants.{Duty as duty, Ban as ban, Power as power, Both as both, Then as then, Repair as repair, Repeat as repeat, When as when, Until as until, Deadline as deadline, Any as any, Tries as tries, Idle as idle, Succeeds as succeeds, Fails as fails, Seq as seq, Or as or, Star as star}
pub use Rattle.emitter.specs.declared.Name.{Name}
pub use Rattle.emitter.specs.declared.Name.TheVariants.{Zero, Party1, Party2, S, K, B, N, LSat, LOne, LTwo, RSat, ROne, RTwo, SE, LE, P, Q, A}
pub use Rattle.emitter.specs.declared.Row.{Row as NamedRow}

-- ---- rows as numbers

-- a row's kind and fields
pub record RowNumbers : Type 0 where
  pub kind : ℕ
  pub x : ℕ
  pub y : ℕ

abbrev pub numbers_of : Row → RowNumbers
numbers_of r = record { kind = kind r; x = field_x r; y = field_y r }

unfoldable pub numbers_bytes : List RowNumbers → List ℕ
numbers_bytes [] = []
numbers_bytes (r ∷ rs) = row_record r.kind r.x r.y ++ numbers_bytes rs

-- an image buffer with these rows written from row b on
unfoldable pub written_rows : List ℕ → (b : ℕ) → List RowNumbers → List ℕ
written_rows image b rs = sets image (row_bytes * b) (numbers_bytes rs)

-- ---- rows by names

-- a row whose fields are names; `meant` says what each stands for
abbrev pub row : RowKind → (x y : Name) → NamedRow
row k x y = record { 0 = k; 1 = x; 2 = y }

abbrev attempt : (party : Name) → NamedRow
attempt p = row Attempt p A

abbrev negation : (x : Name) → NamedRow
negation x = row Not x Zero

abbrev conjunction : (x y : Name) → NamedRow
conjunction = row And

abbrev disjunction : (x y : Name) → NamedRow
disjunction = row Or

abbrev previous : (x : Name) → NamedRow
previous x = row Previous x Zero

-- a kind's own rows, those before its operands' rows, or its window's, and then those after them
abbrev pub kind_rows : Kind → List NamedRow
kind_rows duty = attempt P ∷ attempt Q ∷ conjunction S (B 0) ∷ conjunction (B 2) (B 1) ∷ negation (B 0) ∷ conjunction S (B 4) ∷ negation (B 1) ∷ conjunction (B 2) (B 6) ∷ []
kind_rows ban = attempt P ∷ attempt Q ∷ conjunction S (B 0) ∷ conjunction (B 2) (B 1) ∷ negation (B 3) ∷ conjunction S (B 4) ∷ []
kind_rows power = attempt P ∷ attempt Q ∷ conjunction S (B 0) ∷ negation (B 1) ∷ conjunction (B 2) (B 3) ∷ negation (B 4) ∷ conjunction S (B 5) ∷ []
kind_rows both =
    previous (N 10) ∷ negation (B 0) ∷ conjunction K (B 1)
    ∷ previous (N 2) ∷ conjunction (B 2) (N 0) ∷ disjunction (N 1) LSat ∷ previous (N 5) ∷ conjunction (B 2) (N 3) ∷ disjunction (N 4) RSat
    ∷ conjunction (N 2) (N 5) ∷ disjunction LOne ROne ∷ disjunction LTwo RTwo ∷ disjunction (N 7) (N 8) ∷ disjunction (N 6) (N 9) ∷ []
kind_rows then = previous LSat ∷ conjunction K (B 0) ∷ negation (B 0) ∷ conjunction K (B 2) ∷ disjunction LOne ROne ∷ disjunction LTwo RTwo ∷ []
kind_rows repair = previous (N 0) ∷ conjunction K (B 0) ∷ negation (B 0) ∷ conjunction K (B 2) ∷ disjunction LOne LTwo ∷ disjunction LSat RSat ∷ []
kind_rows repeat = previous RSat ∷ conjunction K (B 0) ∷ negation (B 0) ∷ conjunction K (B 2) ∷ disjunction S (B 1) ∷ []
kind_rows when =
    previous LSat ∷ conjunction K (B 0) ∷ negation (B 0) ∷ conjunction K (B 2)
    ∷ previous LOne ∷ conjunction (B 3) (N 0) ∷ disjunction S (N 1) ∷ disjunction LSat LOne ∷ negation (N 3) ∷ conjunction (N 2) (N 4) ∷ disjunction RSat (N 5) ∷ []
kind_rows until =
    previous (N 4) ∷ negation (B 0) ∷ conjunction K (B 1) ∷ previous (B 5) ∷ conjunction (B 2) (B 3) ∷ disjunction (B 4) S
    ∷ disjunction LOne LTwo ∷ negation (N 0) ∷ conjunction RSat (N 1) ∷ disjunction LSat (N 2) ∷ disjunction (N 3) (N 0) ∷ []
kind_rows deadline =
    attempt P ∷ attempt Q ∷ conjunction (B 0) (B 1) ∷ negation (B 2) ∷ conjunction K (B 3) ∷ conjunction S (B 3)
    ∷ conjunction K LSat ∷ disjunction S (N 0) ∷ conjunction (N 1) (B 2) ∷ negation (B 0) ∷ conjunction LOne (N 3) ∷ conjunction LOne (B 0) ∷ []
kind_rows any = []
kind_rows tries = attempt P ∷ conjunction S (B 0) ∷ []
kind_rows idle = attempt P ∷ negation (B 0) ∷ conjunction S (B 1) ∷ []
kind_rows succeeds = attempt Party1 ∷ attempt Party2 ∷ conjunction (B 0) (B 1) ∷ conjunction S (B 2) ∷ []
kind_rows fails = attempt Party1 ∷ attempt Party2 ∷ conjunction (B 0) (B 1) ∷ negation (B 2) ∷ conjunction S (B 3) ∷ []
kind_rows seq = previous LSat ∷ conjunction K (B 0) ∷ disjunction (B 1) SE ∷ disjunction RSat LE ∷ disjunction LOne ROne ∷ disjunction (N 1) LSat ∷ []
kind_rows or = disjunction LSat RSat ∷ disjunction LOne ROne ∷ []
kind_rows star = previous RSat ∷ conjunction K (B 0) ∷ disjunction (B 1) S ∷ disjunction ROne RSat ∷ []

-- the same of a duty that both parties own
abbrev pub joint_rows : List NamedRow
joint_rows =
    attempt Party1 ∷ attempt Party2 ∷ conjunction S (B 0) ∷ conjunction (B 2) (B 1)
    ∷ negation (B 0) ∷ conjunction S (B 4) ∷ negation (B 1) ∷ conjunction S (B 6) ∷ []

-- the numbers of rows, where the names stand for these
abbrev pub row_numbers : (Name → ℕ) → NamedRow → RowNumbers
row_numbers names r = record { kind = kind_number r.0; x = names r.1; y = names r.2 }

unfoldable pub named_rows : (Name → ℕ) → List NamedRow → List RowNumbers
named_rows names rows = map (row_numbers names) rows
