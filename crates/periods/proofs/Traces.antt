-- The records of a trace and the periods that they hold. Document 01, "Records" and "Replies that refuse"; document 02, "Thirty-two actions".
use Prim.Native.Nat.{ℕ, zero, suc, ◌+◌, ◌-◌, ◌*◌, ◌%◌, ◌≤◌, ◌<◌}
use native.Mathlib.Nat.{add-zero, add_assoc, mul-zero}
use native.Mathlib.Numerals.{add-one}
use native.Mathlib.Omega.{arith}
use mathlib.Core.Bool.{Bool, true, false, not, ◌||◌, false≢true}
use mathlib.Core.List.{List, [], ◌∷◌, ◌++◌, append_assoc, append-nil}
use mathlib.Core.Logic.{⊎_elim}
use mathlib.Core.Path.{◌≡◌, refl, sym, ap, ◌∙◌}
use borrow.Author.Tests.{eqb-true, eq-eqb, ne_eqb}
use lib.Dec.{eqb}
use lib.ListN.{length, get_or, drop, length-append, length-drop}
use lib.Seq.{get_or-drop, length-take-le, get_or-take, drop-drop, take-take}
use Rattle.records.specs.Fields.{field, value}
use Rattle.records.specs.Marks.{marked}
use Rattle.records.specs.declared.Fault.{Fault}
use Rattle.records.specs.declared.Fault.TheVariants.{BadPeriod}
use Rattle.records.specs.Refusals.{Passed, Refused, require, first_of, first_failing}
use Rattle.records.proofs.Cases.{lt_or_le}
use Rattle.records.proofs.Written.{drop-take}
use Rattle.records.proofs.Searches.{all_pass, all_passed, failing_is}
use Rattle.records.proofs.Refusals.{first_passed, require-passed, only_for, only_require, only_first}
use Rattle.periods.specs.declared.Form.{Form}
use Rattle.periods.specs.declared.Form.TheVariants.{Narrow, Wide}
use Rattle.periods.specs.Forms.{form_mark, mask_bytes, period_bytes, either_mark}
use Rattle.periods.specs.Periods.{Period, period_from}
use Rattle.periods.specs.Traces.{whole_periods, record_at, period_at, periods_of, marked_at, marks_test, form_of, period_records, form_test, start_test, trace_test, period_in, period_test}
use Rattle.periods.proofs.Forms.{mark_inside, some_marked, period_inside, whole_bytes, k_whole, one_whole, form_marked, either_own}

-- ---- the periods of the first records

pub length-periods_of : (f : Form) (l : List ℕ) (n : ℕ) → length (periods_of f l n) ≡ n
unfolding periods_of
length-periods_of f l zero = refl
length-periods_of f l (suc n) = rw (length-append, length-periods_of f l n) (add-one n)

-- the periods of the first k records, and those that follow
pub periods_split : (f : Form) (l : List ℕ) (k n : ℕ) → k ≤ n → (v : List Period) × (periods_of f l n ≡ periods_of f l k ++ v)
unfolding periods_of
periods_split f l k zero h = let e : k ≡ 0 = omega arith in ([], rw (e, append-nil))
periods_split f l k (suc n) h =
    ⊎_elim
    (λ (i : k < suc n). let b = periods_split f l k n (omega arith) in
    (b.0 ++ (period_at f l n ∷ []), rw (b.1, append_assoc)))
    (λ (i : suc n ≤ k). let e : k ≡ suc n = omega arith in ([], rw (e, append-nil)))
    (lt_or_le k (suc n))

-- ---- what the tests show

-- no test of this crate gives another fault
abbrev pub period_faults : List Fault
period_faults = BadPeriod ∷ []

required_only : (ok : Bool) (k : ℕ) → only_for period_faults (require ok BadPeriod k) ≡ true
required_only ok k = only_require period_faults BadPeriod refl ok k

pub marks_only : (f : Form) (l : List ℕ) (n : ℕ) → only_for period_faults (marks_test f l n) ≡ true
unfolding marks_test
marks_only f l n = required_only (eqb (first_failing (marked_at f l) 0 n) n) _

-- two bytes or more are tested for the mark alone, and no byte passes
pub form_test_some : (l : List ℕ) → 2 ≤ length l → form_test l ≡ require (either_mark l 0) BadPeriod 0
unfolding form_test
form_test_some l h = rw (ne_eqb (length l) 1 (λ e. omega arith), ne_eqb (length l) 0 (λ e. omega arith))

pub form_test_none : (l : List ℕ) → length l ≡ 0 → form_test l ≡ Passed
unfolding form_test
form_test_none l e = rw e

-- what they show of the mark
pub start_mark : (trace : List ℕ) → 2 ≤ length trace → start_test trace ≡ Passed → either_mark trace 0 ≡ true
unfolding start_test
start_mark trace h t = require-passed (either_mark trace 0) BadPeriod 0 (sym (form_test_some trace h) ∙ (first_passed (form_test trace) _ t).0)

-- n whole records pass, with either form's mark where there are any
pub start_whole : (l : List ℕ) (n : ℕ) → length l ≡ period_bytes (form_of l) * n → (0 < n → either_mark l 0 ≡ true) → start_test l ≡ Passed
unfolding start_test
start_whole l n e m = rw (first, (k_whole (form_of l) l n e).1)
  where
    first : form_test l ≡ Passed
    first =
        ⊎_elim
        (λ (s : 0 < n). let i = some_marked (form_of l) n s in rw (form_test_some l (omega arith), m s))
        (λ (s : n ≤ 0). form_test_none l (let i : n ≡ 0 = omega arith in e ∙ rw (i, mul-zero)))
        (lt_or_le 0 n)

-- three tests at 0 refuse at 0
at_0 : (a b c : Bool)
    → ¬ (first_of (first_of (require a BadPeriod 0) (require b BadPeriod 0)) (require c BadPeriod 0) ≡ Passed)
    → first_of (first_of (require a BadPeriod 0) (require b BadPeriod 0)) (require c BadPeriod 0) ≡ Refused BadPeriod 0
at_0 true true true n = absurd (n refl)
at_0 true true false n = refl
at_0 true false c n = refl
at_0 false b c n = refl

-- such are the tests before the later marks, and those of a step's one record
pub start_refused : (trace : List ℕ) → ¬ (start_test trace ≡ Passed) → start_test trace ≡ Refused BadPeriod 0
unfolding start_test form_test
start_refused trace h =
    at_0 (not (eqb (length trace) 1)) (eqb (length trace) 0 || either_mark trace 0) (eqb (length trace % period_bytes (form_of trace)) 0) h

pub step_refused : (r : List ℕ) → ¬ (period_test r ≡ Passed) → period_test r ≡ Refused BadPeriod 0
unfolding period_test form_test
step_refused r h = at_0 (not (eqb (length r) 1)) (eqb (length r) 0 || either_mark r 0) (eqb (length r) (period_bytes (form_of r))) h

form_only : (trace : List ℕ) → only_for period_faults (form_test trace) ≡ true
unfolding form_test
form_only trace =
    only_first period_faults (require (not (eqb (length trace) 1)) BadPeriod 0) (require (eqb (length trace) 0 || either_mark trace 0) BadPeriod 0)
    (required_only (not (eqb (length trace) 1)) 0) (required_only (eqb (length trace) 0 || either_mark trace 0) 0)

pub start_only : (trace : List ℕ) → only_for period_faults (start_test trace) ≡ true
unfolding start_test
start_only trace =
    let whole = eqb (length trace % period_bytes (form_of trace)) 0 in
    only_first period_faults (form_test trace) (require whole BadPeriod 0) (form_only trace) (required_only whole 0)

pub trace_only : (trace : List ℕ) → only_for period_faults (trace_test trace) ≡ true
unfolding trace_test
trace_only trace =
    let f = form_of trace in
    let n = period_records trace in
    only_first period_faults (start_test trace) (marks_test f trace n) (start_only trace) (marks_only f trace n)

pub period_only : (r : List ℕ) → only_for period_faults (period_test r) ≡ true
unfolding period_test
period_only r =
    let one = eqb (length r) (period_bytes (form_of r)) in
    only_first period_faults (form_test r) (require one BadPeriod 0) (form_only r) (required_only one 0)

-- the marks of the first n records are good exactly where the test is passed
pub marks_passed : (f : Form) (l : List ℕ) (n : ℕ) → marks_test f l n ≡ Passed → (i : ℕ) → i < n → marked_at f l i ≡ true
unfolding marks_test
marks_passed f l n e =
    let bad = first_failing (marked_at f l) 0 n in
    all_passed (marked_at f l) n (eqb-true bad n (require-passed (eqb bad n) BadPeriod bad e))

pub marks_pass : (f : Form) (l : List ℕ) (n : ℕ) → ((i : ℕ) → i < n → marked_at f l i ≡ true) → marks_test f l n ≡ Passed
unfolding marks_test
marks_pass f l n m = rw (all_pass (marked_at f l) n m, eq-eqb n n refl)

-- and the first bad one is the place
pub marks_refused : (f : Form) (l : List ℕ) (n k : ℕ) → k < n → ((i : ℕ) → i < k → marked_at f l i ≡ true) → marked_at f l k ≡ false
    → marks_test f l n ≡ Refused BadPeriod k
unfolding marks_test
marks_refused f l n k i m bad = rw (failing_is (marked_at f l) n k i m bad, ne_eqb k n (λ q. omega arith))

pub trace_marks : (trace : List ℕ) → trace_test trace ≡ Passed → (i : ℕ) → i < period_records trace → marked_at (form_of trace) trace i ≡ true
unfolding trace_test
trace_marks trace e =
    let f = form_of trace in
    let n = period_records trace in
    marks_passed f trace n (first_passed (start_test trace) (marks_test f trace n) e).1

-- a trace of whole records is refused at the first one of another mark, the first record or a later one
pub trace_refused : (trace : List ℕ) (k : ℕ) → length trace % period_bytes (form_of trace) ≡ 0 → k < period_records trace
    → ((i : ℕ) → i < k → marked_at (form_of trace) trace i ≡ true) → marked_at (form_of trace) trace k ≡ false → trace_test trace ≡ Refused BadPeriod k
unfolding trace_test marked_at
trace_refused trace zero e h m bad =
    let i = period_inside (form_of trace) trace 0 h in
    let j = mark_inside (form_of trace) in
    let neither : either_mark trace 0 ≡ false = either_own trace ∙ rw mul-zero at bad in
    rw (start_refused trace (λ p. false≢true (sym neither ∙ start_mark trace (omega arith) p)))
trace_refused trace (suc k) e h m bad =
    let f = form_of trace in
    let n = period_records trace in
    rw (start_whole trace n (whole_bytes f trace e) (λ s. either_own trace ∙ rw mul-zero at (m 0 (omega arith)))) (marks_refused f trace n (suc k) h m bad)

-- one in which each has its mark passes
pub trace_passes : (trace : List ℕ) → length trace % period_bytes (form_of trace) ≡ 0 → ((i : ℕ) → i < period_records trace → marked_at (form_of trace) trace i ≡ true)
    → trace_test trace ≡ Passed
unfolding trace_test marked_at
trace_passes trace e m =
    let f = form_of trace in
    let n = period_records trace in
    rw (start_whole trace n (whole_bytes f trace e) (λ s. either_own trace ∙ rw mul-zero at (m 0 s))) (marks_pass f trace n m)

-- a good record of a step is one record
pub period_one : (r : List ℕ) → period_test r ≡ Passed → period_records r ≡ 1
unfolding period_test
period_one r e =
    let n = period_bytes (form_of r) in
    let t = first_passed (form_test r) (require (eqb (length r) n) BadPeriod 0) e in
    one_whole (form_of r) r (eqb-true (length r) n (require-passed (eqb (length r) n) BadPeriod 0 t.1))

-- ---- a record alone, of as many bytes as a form's has

module _ (f : Form) (r : List ℕ) (long : length r ≡ period_bytes f) where
  marked_test : form_test r ≡ require (either_mark r 0) BadPeriod 0
  marked_test = form_test_some r (let i = mark_inside f in omega arith)

  pub record_passes : marked r 0 (form_mark f) ≡ true → period_test r ≡ Passed
  unfolding period_test
  record_passes m =
      let e = form_marked f r m in
      rw (marked_test, either_own r, e, m, eq-eqb (length r) (period_bytes f) long)

  -- with the other form's mark it has a wrong length
  record_refused : marked r 0 (form_mark f) ≡ false → period_test r ≡ Refused BadPeriod 0
  unfolding period_test
  record_refused m = rw (marked_test, either_own r, long) (go f (form_of r) m)
    where
      either : (t : Bool) → first_of (require t BadPeriod 0) (Refused BadPeriod 0) ≡ Refused BadPeriod 0
      either true = refl
      either false = refl

      go : (f g : Form) → marked r 0 (form_mark f) ≡ false
          → first_of (require (marked r 0 (form_mark g)) BadPeriod 0) (require (eqb (period_bytes f) (period_bytes g)) BadPeriod 0) ≡ Refused BadPeriod 0
      go Narrow Narrow n = rw n
      go Wide Wide n = rw n
      go Narrow Wide n = either (marked r 0 (form_mark Wide))
      go Wide Narrow n = either (marked r 0 (form_mark Narrow))

-- ---- the records of a trace

module _ (f : Form) (l : List ℕ) (k : ℕ) (h : k < whole_periods f l) where
  abbrev start : ℕ
  start = period_bytes f * k

  abbrev own : List ℕ
  own = record_at f l k

  inside : start + period_bytes f ≤ length l
  inside = period_inside f l k h

  length-record_at : length own ≡ period_bytes f
  unfolding record_at
  length-record_at = let i = inside in length-take-le (period_bytes f) (drop start l) (simp length-drop (omega arith))

  byte_at : (j : ℕ) → j < period_bytes f → get_or own j 0 ≡ get_or l (start + j) 0
  unfolding record_at
  byte_at j i = get_or-take (period_bytes f) (drop start l) j 0 i ∙ get_or-drop start l j 0

  field_at : (j w : ℕ) → j + w ≤ period_bytes f → field own j w ≡ field l (start + j) w
  unfolding record_at field
  field_at j w i =
      ap value (rw (drop-take j (period_bytes f) (drop start l), drop-drop j start l) (take-take w (period_bytes f - j) (drop (start + j) l) (omega arith)))

  record_from_lem : period_from f own 0 ≡ period_from f l start
  unfolding period_from
  record_from_lem = rw (field_at 2 (mask_bytes f) (omega arith), field_at (2 + mask_bytes f) (mask_bytes f) (omega arith), ← add_assoc start 2 (mask_bytes f))

  record_marked : marked own 0 (form_mark f) ≡ marked_at f l k
  unfolding marked_at marked
  record_marked =
      let first : get_or own 0 0 ≡ get_or l start 0 = byte_at 0 (omega arith) ∙ rw add-zero in
      rw (first, byte_at 1 (omega arith))

  -- record k with its mark is a good one, of the trace's form, and holds its period
  pub period_test_lem : marked_at f l k ≡ true → period_test own ≡ Passed
  period_test_lem m = record_passes f own length-record_at (record_marked ∙ m)

  pub record_period : marked_at f l k ≡ true → period_in own ≡ period_at f l k
  unfolding period_at
  record_period m = rw (form_marked f own (record_marked ∙ m), mul-zero) record_from_lem

  pub period_refused : marked_at f l k ≡ false → period_test own ≡ Refused BadPeriod 0
  period_refused m = record_refused f own length-record_at (record_marked ∙ m)
