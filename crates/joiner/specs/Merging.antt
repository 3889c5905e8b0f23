-- What the program computes with: what the merge asks of a log that stands at a record.
use Rattle.std.specs.Prelude.{ℕ, ◌+◌, Bool, ◌&&◌, cond, List, eqb, ltb}
use Rattle.joiner.specs.Logs.{log_records, number_at, attempts_at}

-- record k is there, and of this period
unfoldable pub is_of : List ℕ → (k period : ℕ) → Bool
is_of log k p = ltb k (log_records log) && eqb (number_at log k) p

-- what a log's party tries in this period, where the log stands at record k, and where it stands then
unfoldable pub attempts_next : List ℕ → (k period : ℕ) → ℕ
attempts_next log k p = cond (is_of log k p) (attempts_at log k) 0

unfoldable pub record_next : List ℕ → (k period : ℕ) → ℕ
record_next log k p = cond (is_of log k p) (k + 1) k
