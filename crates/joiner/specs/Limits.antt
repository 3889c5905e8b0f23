-- The limits of a log. Document 02, "Join the two parties' logs".
use Rattle.std.specs.Prelude.{ℕ}

-- "A log record is 8 bytes"
abbrev pub log_record_bytes : ℕ
log_record_bytes = 8

-- "a log of bad length (over 65,535 records too)"
abbrev pub max_log_records : ℕ
max_log_records = 65535

-- "with 65,536 added for log 2": the places of each log's first record
abbrev pub log1_place : ℕ
log1_place = 0

abbrev pub log2_place : ℕ
log2_place = 65536
