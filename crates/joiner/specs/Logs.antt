-- A party's log: its records, and what it says of a period. Document 02, "Join the two parties' logs": "A log record is 8 bytes: `54 4C`, a two-byte
-- period number from 1, four bytes of attempts."
use Rattle.std.specs.Prelude.{ℕ, zero, suc, ◌+◌, ◌-◌, ◌*◌, ◌/◌, Bool, true, not, ◌&&◌, cond, List, eqb, ltb, length}
use Rattle.records.specs.Fields.{field}
use Rattle.records.specs.Marks.{log_mark, marked}
use Rattle.records.specs.Refusals.{first_failing}
use Rattle.joiner.specs.Limits.{log_record_bytes}

-- ---- its records

-- how many it has
unfoldable pub log_records : List ℕ → ℕ
log_records log = length log / log_record_bytes

-- the period number of record k, after the mark, and then its attempts
unfoldable pub number_at : List ℕ → (k : ℕ) → ℕ
number_at log k = field log (log_record_bytes * k + 2) 2

unfoldable pub attempts_at : List ℕ → (k : ℕ) → ℕ
attempts_at log k = field log (log_record_bytes * k + 4) 4

-- record k has the mark, and a number from 1
unfoldable pub good_record : List ℕ → (k : ℕ) → Bool
good_record log k = marked log (log_record_bytes * k) log_mark && not (eqb (number_at log k) 0)

-- its number is above that of the record before it, if there is one
unfoldable pub rises : List ℕ → (k : ℕ) → Bool
rises log zero = true
rises log (suc k) = ltb (number_at log k) (number_at log (suc k))

-- ---- what it says of a period

-- the first record with this number; as many as there are records, where the log lacks it
unfoldable pub record_with : List ℕ → (period : ℕ) → ℕ
record_with log p = first_failing (λ (k : ℕ). not (eqb (number_at log k) p)) 0 (log_records log)

-- it has one
unfoldable pub has_period : List ℕ → (period : ℕ) → Bool
has_period log p = ltb (record_with log p) (log_records log)

-- what its party tries: "a party tries nothing in a period that its log lacks"
unfoldable pub attempts_in : List ℕ → (period : ℕ) → ℕ
attempts_in log p = cond (has_period log p) (attempts_at log (record_with log p)) 0

-- its last number, 0 where it is empty
unfoldable pub last_number : List ℕ → ℕ
last_number log = cond (eqb (log_records log) 0) 0 (number_at log (log_records log - 1))
