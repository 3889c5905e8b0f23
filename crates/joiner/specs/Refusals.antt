-- The tests of join, in their order. Document 02, "Join the two parties' logs": 14, 15 and 16, "tested in that order, log 1 before log 2 within 14
-- and within 15, a log's length before its records". `first` is the place of the log's record 0: "The place is the record in its own log, with
-- 65,536 added for log 2".
use Rattle.std.specs.Prelude.{ℕ, ◌+◌, ◌*◌, ◌%◌, Bool, ◌&&◌, List, eqb, leb, length}
use Rattle.records.specs.declared.Fault.{Fault}
use Rattle.records.specs.declared.Fault.TheVariants.{BadLog, OutOfOrder, ShortTrace}
use Rattle.records.specs.Refusals.{Test, require, first_of, first_failing}
use Rattle.periods.specs.declared.Form.TheVariants.{Wide}
use Rattle.periods.specs.Forms.{period_bytes}
use Rattle.joiner.specs.Limits.{log_record_bytes, max_log_records, log1_place, log2_place}
use Rattle.joiner.specs.Logs.{log_records, good_record, rises}
use Rattle.joiner.specs.Joined.{joined_count}

-- 14, "a log of bad length (over 65,535 records too)": "it is 0 for a bad length", of log 2 too
unfoldable pub length_test : (log : List ℕ) → Test
length_test log = require (eqb (length log % log_record_bytes) 0 && leb (log_records log) max_log_records) BadLog 0

-- a log's records in their order: the first that fails is refused
unfoldable pub records_test : (ok : ℕ → Bool) → Fault → (log : List ℕ) → (first : ℕ) → Test
records_test ok f log first =
    let bad = first_failing ok 0 (log_records log) in
    require (eqb bad (log_records log)) f (first + bad)

-- 14: then "a wrong mark or period 0"
unfoldable pub log_test : (log : List ℕ) → (first : ℕ) → Test
log_test log first = first_of (length_test log) (records_test (good_record log) BadLog log first)

-- 15, "a number not above the one before it"
unfoldable pub order_test : (log : List ℕ) → (first : ℕ) → Test
order_test log first = records_test (rises log) OutOfOrder log first

-- 14 and 15 of both logs: two good logs pass
unfoldable pub logs_test : (log1 log2 : List ℕ) → Test
logs_test log1 log2 =
    first_of (log_test log1 log1_place) (first_of (log_test log2 log2_place) (first_of (order_test log1 log1_place) (order_test log2 log2_place)))

-- then 16, "a trace buffer too short"
unfoldable pub join_test : (log1 log2 trace : List ℕ) → Test
join_test log1 log2 trace =
    first_of (logs_test log1 log2) (require (leb (period_bytes Wide * joined_count log1 log2) (length trace)) ShortTrace 0)
