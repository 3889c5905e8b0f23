-- Traces of period records: how many there are, the periods that they hold, and refusal 11. Document 01, "Records", "Calls" and "Replies that
-- refuse"; document 02, "Thirty-two actions".
use Rattle.std.specs.Prelude.{ℕ, zero, suc, ◌*◌, ◌/◌, ◌%◌, Bool, not, ◌||◌, cond, List, [], ◌∷◌, ◌++◌, eqb, length, take, drop}
use Rattle.records.specs.Marks.{marked}
use Rattle.records.specs.declared.Fault.TheVariants.{BadPeriod}
use Rattle.records.specs.Refusals.{Test, require, first_of, first_failing}
use Rattle.periods.specs.declared.Form.{Form}
use Rattle.periods.specs.declared.Form.TheVariants.{Narrow, Wide}
use Rattle.periods.specs.Forms.{form_mark, period_bytes, either_mark}
use Rattle.periods.specs.Periods.{Period, period_from}

-- ---- bytes as records of one form

-- how many whole records they have
unfoldable pub whole_periods : Form → List ℕ → ℕ
whole_periods f l = length l / period_bytes f

-- the bytes of record k
unfoldable pub record_at : Form → List ℕ → (k : ℕ) → List ℕ
record_at f l k = take (period_bytes f) (drop (period_bytes f * k) l)

-- the bytes of the first k records
unfoldable pub first_records : Form → List ℕ → (k : ℕ) → List ℕ
first_records f l k = take (period_bytes f * k) l

-- the period that record k holds
unfoldable pub period_at : Form → List ℕ → (k : ℕ) → Period
period_at f l k = period_from f l (period_bytes f * k)

-- the periods of the first n records
unfoldable pub periods_of : Form → List ℕ → (n : ℕ) → List Period
periods_of f l zero = []
periods_of f l (suc n) = periods_of f l n ++ (period_at f l n ∷ [])

-- record k has the form's mark
unfoldable pub marked_at : Form → List ℕ → (k : ℕ) → Bool
marked_at f l k = marked l (period_bytes f * k) (form_mark f)

-- 11, marks of the first n records: the first with another mark
unfoldable pub marks_test : Form → List ℕ → (n : ℕ) → Test
marks_test f l n =
    let bad = first_failing (marked_at f l) 0 n in
    require (eqb bad n) BadPeriod bad

-- ---- a trace

-- the form of its records, or of a step's one record: "its first record's mark fixes the sort". Where that mark is neither's, 11 refuses.
unfoldable pub form_of : List ℕ → Form
form_of trace = cond (marked trace 0 (form_mark Wide)) Wide Narrow

-- how many period records it has
abbrev pub period_records : List ℕ → ℕ
period_records trace = whole_periods (form_of trace) trace

-- the periods of its first n records
abbrev pub trace_periods : List ℕ → (n : ℕ) → List Period
trace_periods trace n = periods_of (form_of trace) trace n

-- 11, what comes first: "a single byte is a bad length"; then "the first record's mark is now tested before the length". A single byte has no mark, so that
-- its test shows in no reply.
unfoldable pub form_test : List ℕ → Test
form_test trace = first_of (require (not (eqb (length trace) 1)) BadPeriod 0) (require (eqb (length trace) 0 || either_mark trace 0) BadPeriod 0)

-- 11, before the later marks: then a length of whole records of that form
unfoldable pub start_test : List ℕ → Test
start_test trace = first_of (form_test trace) (require (eqb (length trace % period_bytes (form_of trace)) 0) BadPeriod 0)

-- 11 in run: then the later marks, "refusal 11 meets a later record of the other"
unfoldable pub trace_test : List ℕ → Test
trace_test trace = first_of (start_test trace) (marks_test (form_of trace) trace (period_records trace))

-- ---- a step's one record

-- the period that it holds
abbrev pub period_in : (record_bytes : List ℕ) → Period
period_in r = period_at (form_of r) r 0

-- 11 in step: what comes first, then the length of one record of that form
unfoldable pub period_test : List ℕ → Test
period_test r = first_of (form_test r) (require (eqb (length r) (period_bytes (form_of r))) BadPeriod 0)
