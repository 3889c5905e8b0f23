-- Two logs joined, as functions of the period number. Document 02, "Join the two parties' logs".
use Rattle.std.specs.Prelude.{ℕ, zero, suc, max, List, [], ◌∷◌, ◌++◌}
use Rattle.periods.specs.declared.Form.TheVariants.{Wide}
use Rattle.periods.specs.Periods.{Period}
use Rattle.periods.specs.Making.{records_of}
use Rattle.joiner.specs.Logs.{attempts_in, last_number}

-- "The two logs, log 1 being party 1's, are joined on the period number"
abbrev pub joined_period : (log1 log2 : List ℕ) → (period : ℕ) → Period
joined_period log1 log2 p = record { attempts1 = attempts_in log1 p; attempts2 = attempts_in log2 p }

-- periods 1 to n
unfoldable pub joined_to : (log1 log2 : List ℕ) → (n : ℕ) → List Period
joined_to log1 log2 zero = []
joined_to log1 log2 (suc n) = joined_to log1 log2 n ++ (joined_period log1 log2 (suc n) ∷ [])

-- "reaches to the greater of the two last numbers, and two empty logs give an empty trace"
unfoldable pub joined_count : (log1 log2 : List ℕ) → ℕ
joined_count log1 log2 = max (last_number log1) (last_number log2)

abbrev pub joined : (log1 log2 : List ℕ) → List Period
joined log1 log2 = joined_to log1 log2 (joined_count log1 log2)

-- "The trace, in wide records"
abbrev pub joined_trace : (log1 log2 : List ℕ) → List ℕ
joined_trace log1 log2 = records_of Wide (joined log1 log2)
