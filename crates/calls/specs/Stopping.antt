-- What holds of decide's answers. Document 02, "Stop reading once it is decided".
use Rattle.std.specs.Prelude.{ℕ, ◌≤◌, List, ◌≡◌}
use Rattle.std.proofs.lemmas.List.Edits.{sets}
use Rattle.records.specs.Replies.{reply_of}
use Rattle.periods.specs.Traces.{first_records, form_of, period_records, start_test}
use Rattle.layout.specs.Images.{row_count}
use Rattle.states.specs.Limits.{max_periods}
use Rattle.states.specs.States.{state_of, fresh_bytes}
use Rattle.calls.specs.Reading.{records_read}
use Rattle.calls.specs.Refusals.{run_test}
use Rattle.calls.specs.Calls.{answer_after, run, decide}
use Rattle.records.specs.Refusals.{Passed}

-- the records that decide reads
abbrev pub read_first : (image trace : List ℕ) → List ℕ
read_first image trace = first_records (form_of trace) trace (records_read image trace)

-- "On a fresh state, run over just the records read leaves the same outcome, blame and decision.": that run takes as many records and is accepted,
-- and decide replies with outcome, blame and decision period of the state whose bytes it leaves
pub record SameAsRun (image trace area reply : List ℕ) : Type 0 where
  pub as_many : period_records (read_first image trace) ≡ records_read image trace
  pub run_accepted : run_test image (fresh_bytes (row_count image)) (read_first image trace) ≡ Passed
  pub same : (decide image trace area).reply
      ≡ sets area 0 (reply_of Passed (answer_after (state_of (run image (fresh_bytes (row_count image)) (read_first image trace) reply).buffers) (records_read image trace)))

-- u is a trace that starts with the records that decide reads of t, and goes on in any way
pub record StartsAs (image t u : List ℕ) : Type 0 where
  pub starts : first_records (form_of u) u (records_read image t) ≡ read_first image t
  pub good_start : start_test u ≡ Passed
  pub few : period_records u ≤ max_periods
