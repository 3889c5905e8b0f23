-- What holds of join's traces: they can be handed on, and exchanging the logs exchanges the parties. Document 02, "Join the two parties' logs".
use Prim.Native.Nat.{ℕ, zero, suc, ◌+◌, ◌-◌, ◌*◌, ◌^◌, ◌<◌, ◌≤◌}
use native.Mathlib.Nat.{zero-add, max_comm}
use native.Mathlib.Omega.{arith}
use mathlib.Core.Bool.{Bool, true, false, cond}
use mathlib.Core.List.{List, [], ◌∷◌, ◌++◌, append_assoc}
use mathlib.Core.Logic.{◌⊎◌, inl, inr, ⊎_elim}
use mathlib.Core.Path.{◌≡◌, refl, sym, ap, ◌∙◌}
use lib.Dec.{eqb, lit<}
use lib.ListN.{length, drop}
use lib.Seq.{sets}
use Rattle.records.specs.Fields.{bytes}
use Rattle.records.specs.Holding.{AllBytes}
use Rattle.records.specs.Replies.{alone, head_of, head_size, After, call}
use Rattle.records.proofs.Cases.{lt_or_le}
use Rattle.records.proofs.Fields.{field_lt}
use Rattle.records.proofs.Written.{take_through, drop_after, part_in}
use Rattle.records.proofs.Replies.{head_back, call_no_room, call-passed, call_refused, call_buffers, call_apart}
use Rattle.periods.specs.declared.Form.TheVariants.{Wide}
use Rattle.periods.specs.Forms.{mask_bytes, period_bytes}
use Rattle.periods.specs.Periods.{Period}
use Rattle.periods.specs.Traces.{record_at, first_records}
use Rattle.periods.specs.Making.{record_of}
use Rattle.periods.proofs.Making.{Fits, AllFit, all_fit_more, length-records_of, records_record, made_passes, made_in, wide_count, wide_passes, wide_periods}
use Rattle.joiner.specs.Limits.{log_record_bytes}
use Rattle.joiner.specs.Logs.{log_records, number_at, attempts_at, record_with, has_period, attempts_in, last_number}
use Rattle.joiner.specs.Joined.{joined_period, joined_to, joined_count, joined, joined_trace}
use Rattle.joiner.specs.Refusals.{logs_test, join_test}
use Rattle.joiner.specs.Calls.{join}
use Rattle.joiner.specs.Joining.{written_trace, Handed, exchanged, Exchanges}
use Rattle.joiner.proofs.Refusals.{exchanged_logs, has_room}
use Rattle.joiner.proofs.Writing.{length-joined_to}
use Rattle.records.specs.Refusals.{Passed}

-- ---- the joined periods

-- the periods before k + 1, that one, and those after it
joined_around : (log1 log2 : List ℕ) (k n : ℕ) → k < n → (v : List Period) × (joined_to log1 log2 n ≡ joined_to log1 log2 k ++ (joined_period log1 log2 (suc k) ∷ v))
unfolding joined_to
joined_around log1 log2 k zero h = absurd (omega arith)
joined_around log1 log2 k (suc n) h =
    ⊎_elim
    (λ (l : k < n).
    let b = joined_around log1 log2 k n l in
    (b.0 ++ (joined_period log1 log2 (suc n) ∷ []), rw b.1 (append_assoc (joined_to log1 log2 k) (joined_period log1 log2 (suc k) ∷ b.0) (joined_period log1 log2 (suc n) ∷ []))))
    (λ (l : n ≤ k). let e : k ≡ n = omega arith in ([], rw e)) (lt_or_le k n)

-- a log's attempts have four bytes
attempts_small : (log : List ℕ) → AllBytes log → (p : ℕ) → attempts_in log p < 256 ^ mask_bytes Wide
unfolding attempts_in attempts_at
attempts_small log b p = go (has_period log p)
  where
    go : (t : Bool) → cond t (attempts_at log (record_with log p)) 0 < 256 ^ mask_bytes Wide
    go true = field_lt log (log_record_bytes * record_with log p + 4) 4 b
    go false = lit< tt

-- a log's last number has two bytes
last_small : (log : List ℕ) → AllBytes log → last_number log < 256 ^ 2
unfolding last_number number_at
last_small log b = go (eqb (log_records log) 0)
  where
    go : (t : Bool) → cond t 0 (number_at log (log_records log - 1)) < 256 ^ 2
    go true = lit< tt
    go false = field_lt log (log_record_bytes * (log_records log - 1) + 2) 2 b

module _ (log1 log2 : List ℕ) (b1 : AllBytes log1) (b2 : AllBytes log2) where
  count_small : joined_count log1 log2 < 256 ^ 2
  unfolding joined_count
  count_small = let l = last_small log1 b1 in let m = last_small log2 b2 in omega arith

  joined_fits : (p : ℕ) → Fits Wide (joined_period log1 log2 p)
  joined_fits p = record { fits1 = attempts_small log1 b1 p; fits2 = attempts_small log2 b2 p }

  all_fit : (n : ℕ) → AllFit Wide (joined_to log1 log2 n)
  unfolding joined_to
  all_fit zero = tt
  all_fit (suc n) = all_fit_more Wide (joined_to log1 log2 n) (joined_period log1 log2 (suc n)) (all_fit n) (joined_fits (suc n))

-- ---- the bytes in the buffer

length_trace : (log1 log2 : List ℕ) → length (joined_trace log1 log2) ≡ period_bytes Wide * joined_count log1 log2
length_trace log1 log2 = length-records_of Wide (joined log1 log2) ∙ rw (length-joined_to log1 log2 (joined_count log1 log2))

-- "bytes past it keep their values", accepted or not
pub rest_kept : (log1 log2 trace reply : List ℕ)
    → drop (period_bytes Wide * joined_count log1 log2) (join log1 log2 trace reply).buffers ≡ drop (period_bytes Wide * joined_count log1 log2) trace
unfolding join
rest_kept log1 log2 trace reply =
    let m = period_bytes Wide * joined_count log1 log2 in
    let e = length_trace log1 log2 in
    call_buffers (join_test log1 log2 trace) (alone (joined_count log1 log2)) trace (sets trace 0 (joined_trace log1 log2)) reply
    (λ (l : List ℕ). drop m l ≡ drop m trace) refl (drop_after trace 0 (joined_trace log1 log2) m (omega arith))

-- where it isn't accepted, all of them do
untouched : (log1 log2 trace reply : List ℕ) → (length reply < head_size) ⊎ ¬ (join_test log1 log2 trace ≡ Passed) → (join log1 log2 trace reply).buffers ≡ trace
unfolding join
untouched log1 log2 trace reply n =
    let a = alone (joined_count log1 log2) in
    let l = sets trace 0 (joined_trace log1 log2) in
    ⊎_elim (λ (h : length reply < head_size). rw (call_no_room (join_test log1 log2 trace) a trace l reply h))
    (λ (r : ¬ (join_test log1 log2 trace ≡ Passed)).
    ⊎_elim (λ (h : length reply < head_size). rw (call_no_room (join_test log1 log2 trace) a trace l reply h))
    (λ (h : head_size ≤ length reply). rw (call_refused (join_test log1 log2 trace) a trace l reply h r)) (lt_or_le (length reply) head_size)) n

-- where it is accepted
module _ (log1 log2 trace reply : List ℕ) (h : head_size ≤ length reply) (t : join_test log1 log2 trace ≡ Passed) where
  fits : 0 + length (joined_trace log1 log2) ≤ length trace
  fits = let r = has_room log1 log2 trace t in rw (zero-add, length_trace log1 log2) r

  left : (join log1 log2 trace reply).buffers ≡ sets trace 0 (joined_trace log1 log2)
  unfolding join
  left = rw (call-passed (join_test log1 log2 trace) (alone (joined_count log1 log2)) trace (sets trace 0 (joined_trace log1 log2)) reply h t)

  -- the trace stands in the first bytes
  first_bytes : written_trace log1 log2 trace reply ≡ joined_trace log1 log2
  unfolding first_records
  first_bytes = rw (left, ← length_trace log1 log2) (rw zero-add at (take_through trace 0 (joined_trace log1 log2) fits))

  -- record k is that of period k + 1, in the trace and in the buffer
  module _ (k : ℕ) (l : k < joined_count log1 log2) where
    trace_record : record_at Wide (joined_trace log1 log2) k ≡ record_of Wide (joined_period log1 log2 (suc k))
    trace_record =
        let a = joined_around log1 log2 k (joined_count log1 log2) l in
        rw a.1 (rw (length-joined_to log1 log2 k) at (records_record Wide (joined_to log1 log2 k) (joined_period log1 log2 (suc k)) a.0))

    pub buffer_record : record_at Wide (join log1 log2 trace reply).buffers k ≡ record_of Wide (joined_period log1 log2 (suc k))
    unfolding record_at
    buffer_record =
        let e = length_trace log1 log2 in
        rw left (rw zero-add at (part_in trace 0 (joined_trace log1 log2) (period_bytes Wide * k) (period_bytes Wide) fits (omega arith)) ∙ trace_record)

  -- the count has two bytes, so it is read back
  replied : AllBytes log1 → AllBytes log2 → head_of (join log1 log2 trace reply).reply ≡ record { number = 0; own = joined_count log1 log2; place = 0 }
  unfolding join
  replied b1 b2 =
      let a = alone (joined_count log1 log2) in
      rw (call-passed (join_test log1 log2 trace) a trace (sets trace 0 (joined_trace log1 log2)) reply h t)
      (head_back reply Passed a h (omega (arith, count_small log1 log2 b1 b2)) (lit< tt))

  pub handed : AllBytes log1 → AllBytes log2 → Handed log1 log2 trace reply
  handed b1 b2 =
      let w = joined log1 log2 in
      let n = length-joined_to log1 log2 (joined_count log1 log2) in
      record {
        replies = replied b1 b2;
        as_many = rw first_bytes (wide_count w ∙ n);
        passes = rw first_bytes (wide_passes w);
        periods = rw first_bytes (rw n at (wide_periods w (all_fit log1 log2 b1 b2 (joined_count log1 log2))));
        record_passes = λ k l. rw (first_bytes, trace_record k l) (made_passes Wide (joined_period log1 log2 (suc k)));
        record_period = λ k l. rw (first_bytes, trace_record k l) (made_in Wide (joined_period log1 log2 (suc k)) (joined_fits log1 log2 b1 b2 (suc k)));
      }

-- ---- the logs exchanged

exchanged_record : (one two : ℕ) → record_of Wide (record { attempts1 = two; attempts2 = one }) ≡ exchanged (record_of Wide (record { attempts1 = one; attempts2 = two }))
unfolding record_of bytes
exchanged_record one two = refl

exchanged_count : (log1 log2 : List ℕ) → joined_count log2 log1 ≡ joined_count log1 log2
unfolding joined_count
exchanged_count log1 log2 = max_comm _ _

exchanged_test : (log1 log2 trace : List ℕ) → logs_test log1 log2 ≡ Passed → join_test log2 log1 trace ≡ join_test log1 log2 trace
unfolding join_test
exchanged_test log1 log2 trace e = rw (e, exchanged_logs log1 log2 e, exchanged_count log1 log2)

-- the call but for the bytes in its buffer
exchanged_apart : (log1 log2 trace reply : List ℕ) → logs_test log1 log2 ≡ Passed
    → ((join log2 log1 trace reply).result ≡ (join log1 log2 trace reply).result) × ((join log2 log1 trace reply).reply ≡ (join log1 log2 trace reply).reply)
unfolding join
exchanged_apart log1 log2 trace reply e =
    let same : join log2 log1 trace reply ≡ call (join_test log1 log2 trace) (alone (joined_count log1 log2)) trace (sets trace 0 (joined_trace log2 log1)) reply =
    rw (exchanged_test log1 log2 trace e, exchanged_count log1 log2) in
    let apart = call_apart (join_test log1 log2 trace) (alone (joined_count log1 log2)) trace (sets trace 0 (joined_trace log2 log1)) (sets trace 0 (joined_trace log1 log2)) reply in
    (ap (λ (x : After (List ℕ)). x.result) same ∙ apart.0, ap (λ (x : After (List ℕ)). x.reply) same ∙ apart.1)

pub exchanges : (log1 log2 trace reply : List ℕ) → logs_test log1 log2 ≡ Passed → Exchanges log1 log2 trace reply
exchanges log1 log2 trace reply e =
    let c = exchanged_count log1 log2 in
    let apart = exchanged_apart log1 log2 trace reply e in
    record {
      same_result = apart.0;
      same_reply = apart.1;
      same_rest = rw c at (rest_kept log2 log1 trace reply) ∙ sym (rest_kept log1 log2 trace reply);
      each_record = λ h p k l.
          buffer_record log2 log1 trace reply h (exchanged_test log1 log2 trace e ∙ p) k (rw c l)
          ∙ exchanged_record (attempts_in log1 (suc k)) (attempts_in log2 (suc k))
          ∙ ap exchanged (sym (buffer_record log1 log2 trace reply h p k l));
      not_accepted = λ n. untouched log2 log1 trace reply (⊎_elim inl (λ r. inr (λ p. r (sym (exchanged_test log1 log2 trace e) ∙ p))) n) ∙ sym (untouched log1 log2 trace reply n);
    }
