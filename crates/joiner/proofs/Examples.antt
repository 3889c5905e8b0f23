-- The vectors hold of the definitions, by computation but for the greatest length of a log.
use Prim.Native.Nat.{ℕ, ◌*◌, ◌/◌, ◌%◌, ◌≤◌, ◌<◌}
use native.Mathlib.Omega.{arith}
use mathlib.Core.Bool.{and-false}
use mathlib.Core.List.{List, [], ◌∷◌, map}
use mathlib.Core.Logic.{⊎_elim}
use mathlib.Core.Path.{◌≡◌, refl}
use borrow.Author.Tests.{lt-leb, ne_eqb}
use lib.Dec.{eqb}
use lib.ListN.{length, replicate}
use Rattle.records.specs.declared.Fault.TheVariants.{BadLog}
use Rattle.records.proofs.Cases.{lt_or_le}
use Rattle.records.specs.Fields.{bytes, value, field}
use Rattle.records.specs.Marks.{marked}
use Rattle.records.specs.Refusals.{Passed, Refused, first_failing}
use Rattle.records.specs.Replies.{fields_bytes, call}
use Rattle.periods.specs.Making.{record_of, records_of}
use Rattle.joiner.specs.Limits.{max_log_records, log1_place, log2_place}
use Rattle.joiner.specs.Logs.{log_records, number_at, attempts_at, good_record, rises, record_with, has_period, attempts_in, last_number}
use Rattle.joiner.specs.Joined.{joined_to, joined_count}
use Rattle.joiner.specs.Refusals.{length_test, records_test, log_test, order_test, logs_test, join_test}
use Rattle.joiner.specs.Calls.{join}
use Rattle.joiner.specs.Examples.{one_and_three, falling, JoinVectors}

-- a length over 65,535 records is no multiple of 8, or has more
too_many : (log : List ℕ) → 8 * 65535 < length log → length_test log ≡ Refused BadLog 0
unfolding length_test log_records
too_many log h =
    ⊎_elim
    (λ (l : 65535 < length log / 8).
    let many : max_log_records < length log / 8 = l in
    rw (lt-leb (length log / 8) max_log_records many, and-false (eqb (length log % 8) 0)))
    (λ (l : length log / 8 ≤ 65535). rw (ne_eqb (length log % 8) 0 (λ e. omega arith))) (lt_or_le 65535 (length log / 8))

-- so 14 refuses the log at 0, wherever its records' places start, and join refuses it: as log 1, and as log 2 behind a log 1 that passes 14
too_many_log : (log : List ℕ) (first : ℕ) → 8 * 65535 < length log → log_test log first ≡ Refused BadLog 0
unfolding log_test
too_many_log log first h = rw (too_many log h)

too_many_1 : (log1 log2 trace : List ℕ) → 8 * 65535 < length log1 → join_test log1 log2 trace ≡ Refused BadLog 0
unfolding join_test logs_test
too_many_1 log1 log2 trace h = rw (too_many_log log1 log1_place h)

too_many_2 : (log1 log2 trace : List ℕ) → log_test log1 log1_place ≡ Passed → 8 * 65535 < length log2 → join_test log1 log2 trace ≡ Refused BadLog 0
unfolding join_test logs_test
too_many_2 log1 log2 trace e h = rw (e, too_many_log log2 log2_place h)

-- 14 passes these
passes_14 : (log_test [] log1_place ≡ Passed) × (log_test one_and_three log1_place ≡ Passed) × (log_test falling log1_place ≡ Passed)
unfolding value field marked first_failing log_records number_at good_record length_test records_test log_test
passes_14 = (refl, refl, refl)

too_many_behind : (log2 trace : List ℕ) → 8 * 65535 < length log2
    → map (λ (log1 : List ℕ). join_test log1 log2 trace) ([] ∷ one_and_three ∷ falling ∷ []) ≡ replicate 3 (Refused BadLog 0)
too_many_behind log2 trace h =
    rw (too_many_2 [] log2 trace passes_14.0 h, too_many_2 one_and_three log2 trace passes_14.1 h, too_many_2 falling log2 trace passes_14.2 h)

pub join_vectors : JoinVectors
unfolding
    bytes value field marked first_failing fields_bytes call record_of records_of log_records number_at attempts_at good_record rises record_with has_period attempts_in last_number
    joined_to joined_count length_test records_test log_test order_test logs_test join_test join
join_vectors =
    record {
      record_counts = refl;
      numbers = refl;
      attempts = refl;
      attempts_in_lem = refl;
      last_numbers = refl;
      periods_of_both = refl;
      overlapping = refl;
      exchanged = refl;
      equal = refl;
      first_longer = refl;
      second_longer = refl;
      one_empty = refl;
      nothing_tried = refl;
      both_empty = refl;
      all_bytes = refl;
      bad_lengths = refl;
      most_records = λ log e. rw e;
      too_many_records = too_many;
      too_many_in_1 = too_many_1;
      too_many_in_2 = too_many_behind;
      bad_records = refl;
      bad_orders = refl;
      places_1 = refl;
      places_2 = refl;
      log_1_first = refl;
      bad_log_first = refl;
      length_first = refl;
      room = refl;
      one_byte_short = refl;
      long_room = refl;
      long_reply = refl;
      refused = refl;
      refused_2 = refl;
      short_area = refl;
      full_area = refl;
    }
