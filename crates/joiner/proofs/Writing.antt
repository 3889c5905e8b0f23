-- Why the merge writes the joined trace: after each period its records stand in the buffer, and each log at its next record.
use Prim.Native.Nat.{ℕ, zero, suc, ◌+◌, ◌*◌}
use native.Mathlib.Nat.{zero-add}
use native.Mathlib.Numerals.{add-one}
use mathlib.Core.List.{List, [], ◌∷◌, append-nil}
use mathlib.Core.Path.{◌≡◌, refl, ◌∙◌}
use lib.ListN.{length, length-append}
use lib.Seq.{sets}
use Rattle.records.specs.Fields.{bytes}
use Rattle.records.specs.Marks.{wide_mark}
use Rattle.records.proofs.Fields.{length-bytes}
use Rattle.records.proofs.Written.{sets-append}
use Rattle.records.specs.Refusals.{Passed}
use Rattle.periods.specs.declared.Form.TheVariants.{Wide}
use Rattle.periods.specs.Forms.{period_bytes}
use Rattle.periods.specs.Periods.{Period}
use Rattle.periods.specs.Making.{record_of, records_of}
use Rattle.periods.proofs.Making.{length-records_of, records_of-append}
use Rattle.joiner.specs.Joined.{joined_period, joined_to}
use Rattle.joiner.specs.Merging.{attempts_next, record_next}
use Rattle.joiner.specs.Refusals.{join_test}
use Rattle.joiner.proofs.Logs.{RisingLog}
use Rattle.joiner.proofs.Refusals.{rising_logs, logs_passed}
use Rattle.joiner.proofs.Merging.{StandsAt, stands_first, tries_next, stands_next}

-- a wide record is its mark and then both parties' attempts
pub record_written : (l : List ℕ) (i : ℕ) (x : Period)
    → sets l i (record_of Wide x) ≡ sets (sets (sets l i wide_mark) (i + 2) (bytes 4 x.attempts1)) (i + 6) (bytes 4 x.attempts2)
unfolding record_of
record_written l i x = simp (sets-append, length-bytes)

-- the trace's periods are as many as its numbers
pub length-joined_to : (log1 log2 : List ℕ) (n : ℕ) → length (joined_to log1 log2 n) ≡ n
unfolding joined_to
length-joined_to log1 log2 zero = refl
length-joined_to log1 log2 (suc n) = rw (length-append, length-joined_to log1 log2 n) (add-one n)

-- after p periods
pub record Merged (log1 log2 trace : List ℕ) (p i j : ℕ) (l : List ℕ) : Type 0 where
  pub stands1 : StandsAt log1 p i
  pub stands2 : StandsAt log2 p j
  pub written : l ≡ sets trace 0 (records_of Wide (joined_to log1 log2 p))

module _ (log1 log2 trace : List ℕ) (e : join_test log1 log2 trace ≡ Passed) where
  rises1 : RisingLog log1
  rises1 = (rising_logs log1 log2 (logs_passed log1 log2 trace e)).0

  rises2 : RisingLog log2
  rises2 = (rising_logs log1 log2 (logs_passed log1 log2 trace e)).1

  pub merged_first : Merged log1 log2 trace 0 0 0 trace
  unfolding joined_to records_of
  merged_first = record { stands1 = stands_first log1 rises1; stands2 = stands_first log2 rises2; written = refl }

  module _ (p i j : ℕ) (l : List ℕ) (m : Merged log1 log2 trace p i j l) where
    -- the next period, as the merge finds it
    abbrev next : Period
    next = record { attempts1 = attempts_next log1 i (p + 1); attempts2 = attempts_next log2 j (p + 1) }

    next_is : next ≡ joined_period log1 log2 (suc p)
    next_is = rw (tries_next log1 rises1 p i m.stands1, tries_next log2 rises2 p j m.stands2)

    more : sets (sets trace 0 (records_of Wide (joined_to log1 log2 p))) (period_bytes Wide * p) (record_of Wide (joined_period log1 log2 (suc p)))
        ≡ sets trace 0 (records_of Wide (joined_to log1 log2 (p + 1)))
    unfolding joined_to records_of
    more =
        let w = joined_to log1 log2 p in
        let x = joined_period log1 log2 (suc p) in
        let at : 0 + length (records_of Wide w) ≡ period_bytes Wide * p = zero-add (length (records_of Wide w)) ∙ length-records_of Wide w ∙ rw (length-joined_to log1 log2 p) in
        rw (add-one p, records_of-append Wide w (x ∷ []), append-nil, sets-append trace 0 (records_of Wide w) (record_of Wide x), at)

    pub merged_next : Merged log1 log2 trace (p + 1) (record_next log1 i (p + 1)) (record_next log2 j (p + 1)) (sets l (period_bytes Wide * p) (record_of Wide next))
    merged_next =
        record {
          stands1 = stands_next log1 rises1 p i m.stands1;
          stands2 = stands_next log2 rises2 p j m.stands2;
          written = rw (m.written, next_is) more;
        }
