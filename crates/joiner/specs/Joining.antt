-- What holds of join's traces. Document 02, "Join the two parties' logs".
use Rattle.std.specs.Prelude.{ℕ, suc, ◌*◌, ◌<◌, ◌≤◌, List, ◌++◌, ◌⊎◌, ◌≡◌, length, take, drop}
use Rattle.records.specs.Replies.{head_of, head_size}
use Rattle.periods.specs.declared.Form.TheVariants.{Wide}
use Rattle.periods.specs.Forms.{period_bytes}
use Rattle.periods.specs.Traces.{record_at, first_records, period_records, trace_periods, trace_test, period_in, period_test}
use Rattle.joiner.specs.Joined.{joined_period, joined_count, joined}
use Rattle.joiner.specs.Refusals.{join_test}
use Rattle.joiner.specs.Calls.{join}
use Rattle.records.specs.Refusals.{Passed}

-- the trace that join leaves in its buffer
abbrev pub written_trace : (log1 log2 trace reply : List ℕ) → List ℕ
written_trace log1 log2 trace reply = first_records Wide (join log1 log2 trace reply).buffers (joined_count log1 log2)

-- It can be handed to run, decide and step as it is: it has as many records as join replies, passes the test of a trace, and its periods are the
-- joined ones; and so it is with each record by itself.
pub record Handed (log1 log2 trace reply : List ℕ) : Type 0 where
  pub replies : head_of (join log1 log2 trace reply).reply ≡ record { number = 0; own = joined_count log1 log2; place = 0 }
  pub as_many : period_records (written_trace log1 log2 trace reply) ≡ joined_count log1 log2
  pub passes : trace_test (written_trace log1 log2 trace reply) ≡ Passed
  pub periods : trace_periods (written_trace log1 log2 trace reply) (joined_count log1 log2) ≡ joined log1 log2
  pub record_passes : (k : ℕ) → k < joined_count log1 log2 → period_test (record_at Wide (written_trace log1 log2 trace reply) k) ≡ Passed
  pub record_period : (k : ℕ) → k < joined_count log1 log2
      → period_in (record_at Wide (written_trace log1 log2 trace reply) k) ≡ joined_period log1 log2 (suc k)

-- a wide record's bytes with the parties' attempts exchanged: the mark, the last four bytes, the four before them
abbrev pub exchanged : (record_bytes : List ℕ) → List ℕ
exchanged r = take 2 r ++ take 4 (drop 6 r) ++ take 4 (drop 2 r)

-- "For two good logs, exchanging them exchanges the parties in each period and nothing else.": the result, the reply and the bytes past the trace
-- are the same; where join is accepted, each record has the parties exchanged, and where it isn't, the whole buffer is the same
pub record Exchanges (log1 log2 trace reply : List ℕ) : Type 0 where
  pub same_result : (join log2 log1 trace reply).result ≡ (join log1 log2 trace reply).result
  pub same_reply : (join log2 log1 trace reply).reply ≡ (join log1 log2 trace reply).reply
  pub same_rest : drop (period_bytes Wide * joined_count log1 log2) (join log2 log1 trace reply).buffers
      ≡ drop (period_bytes Wide * joined_count log1 log2) (join log1 log2 trace reply).buffers
  pub each_record : head_size ≤ length reply → join_test log1 log2 trace ≡ Passed → (k : ℕ) → k < joined_count log1 log2
      → record_at Wide (join log2 log1 trace reply).buffers k ≡ exchanged (record_at Wide (join log1 log2 trace reply).buffers k)
  pub not_accepted : (length reply < head_size) ⊎ ¬ (join_test log1 log2 trace ≡ Passed)
      → (join log2 log1 trace reply).buffers ≡ (join log1 log2 trace reply).buffers
