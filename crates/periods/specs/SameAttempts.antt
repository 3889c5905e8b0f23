-- Traces with the same attempts, in whichever forms. Document 02, "Thirty-two actions".
use Rattle.std.specs.Prelude.{ℕ, List, ◌≡◌}
use Rattle.periods.specs.declared.Form.TheVariants.{Wide}
use Rattle.periods.specs.Traces.{period_records, trace_periods, start_test}
use Rattle.periods.specs.Making.{records_of}

-- the wide trace with the same attempts
abbrev pub in_wide : List ℕ → List ℕ
in_wide trace = records_of Wide (trace_periods trace (period_records trace))

-- two traces hold the same periods, and the tests before the later marks find the same
pub record SameAttempts (t u : List ℕ) : Type 0 where
  pub starts : start_test u ≡ start_test t
  pub periods : trace_periods u (period_records u) ≡ trace_periods t (period_records t)
