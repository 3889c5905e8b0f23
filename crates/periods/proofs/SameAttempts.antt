-- Traces with the same attempts: what follows from it, and that the wide trace made of a trace's periods has them. Document 02, "Thirty-two actions".
use Prim.Native.Nat.{ℕ, zero, suc, ◌+◌, ◌*◌, ◌≤◌}
use mathlib.Core.List.{List}
use mathlib.Core.Path.{◌≡◌, sym, ap, ◌∙◌}
use lib.ListN.{length, take}
use lib.Seq.{take_at}
use Rattle.records.specs.Holding.{AllBytes}
use Rattle.records.proofs.Fields.{field_lt}
use Rattle.periods.specs.declared.Form.{Form}
use Rattle.periods.specs.declared.Form.TheVariants.{Wide}
use Rattle.periods.specs.Forms.{mask_bytes, period_bytes}
use Rattle.periods.specs.Periods.{period_from}
use Rattle.periods.specs.Traces.{period_at, periods_of, form_of, period_records, trace_periods, start_test, period_in, period_test}
use Rattle.periods.specs.Making.{record_of}
use Rattle.periods.specs.SameAttempts.{in_wide, SameAttempts}
use Rattle.periods.proofs.Forms.{wider}
use Rattle.periods.proofs.Traces.{length-periods_of, periods_split}
use Rattle.periods.proofs.Making.{Fits, AllFit, all_fit_more, made_passes, made_in, wide_count, wide_starts, wide_periods}
use Rattle.records.specs.Refusals.{Passed}

-- ---- the first of the same periods

-- the periods of the first records are the first periods
periods_take : (f : Form) (l : List ℕ) (k n : ℕ) → k ≤ n → take k (periods_of f l n) ≡ periods_of f l k
periods_take f l k n h =
    let s = periods_split f l k n h in
    rw s.1 (take_at (periods_of f l k) s.0 k (length-periods_of f l k))

module _ (t u : List ℕ) (s : SameAttempts t u) where
  pub as_many : period_records u ≡ period_records t
  as_many =
      sym (length-periods_of (form_of u) u (period_records u)) ∙ ap length s.periods ∙ length-periods_of (form_of t) t (period_records t)

  pub same_periods : (n : ℕ) → n ≤ period_records t → trace_periods u n ≡ trace_periods t n
  same_periods n h =
      let m : n ≤ period_records u = rw as_many h in
      sym (periods_take (form_of u) u n (period_records u) m) ∙ ap (take n) s.periods ∙ periods_take (form_of t) t n (period_records t) h

-- ---- the wide trace with the same attempts

-- a record's masks fit into those of a wide one
period_fits : (trace : List ℕ) → AllBytes trace → (k : ℕ) → Fits Wide (period_at (form_of trace) trace k)
unfolding period_at period_from
period_fits trace b k =
    let f = form_of trace in
    record {
      fits1 = wider f (field_lt trace (period_bytes f * k + 2) (mask_bytes f) b);
      fits2 = wider f (field_lt trace (period_bytes f * k + 2 + mask_bytes f) (mask_bytes f) b);
    }

module _ (trace : List ℕ) (b : AllBytes trace) where
  abbrev form : Form
  form = form_of trace

  abbrev total : ℕ
  total = period_records trace

  all_fit : (n : ℕ) → AllFit Wide (periods_of form trace n)
  unfolding periods_of
  all_fit zero = tt
  all_fit (suc n) = all_fit_more Wide (periods_of form trace n) (period_at form trace n) (all_fit n) (period_fits trace b n)

  pub in_wide_lem : start_test trace ≡ Passed → SameAttempts trace (in_wide trace)
  in_wide_lem t =
      let w = trace_periods trace total in
      record { starts = wide_starts w ∙ sym t; periods = rw (wide_count w) (wide_periods w (all_fit total)) }

-- the same of a step's one record
pub record_in_wide : (r : List ℕ) → AllBytes r → (period_test (record_of Wide (period_in r)) ≡ Passed) × (period_in (record_of Wide (period_in r)) ≡ period_in r)
record_in_wide r b = (made_passes Wide (period_in r), made_in Wide (period_in r) (period_fits r b 0))
