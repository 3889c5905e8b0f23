-- What the tests of join show, and which faults they can give. Document 02, "Join the two parties' logs".
use Prim.Native.Nat.{ℕ, suc, ◌+◌, ◌*◌, ◌%◌, ◌<◌, ◌≤◌}
use native.Mathlib.Omega.{arith}
use mathlib.Core.Bool.{Bool, true, ◌&&◌, and-eq-true_iff}
use mathlib.Core.List.{List, [], ◌∷◌}
use mathlib.Core.Path.{◌≡◌, refl}
use borrow.Author.Tests.{eqb-true, eqb-false, leb-true, ltb-true, not-true}
use lib.Dec.{eqb, leb}
use lib.ListN.{length}
use Rattle.records.specs.Marks.{log_mark, marked}
use Rattle.records.specs.declared.Fault.{Fault}
use Rattle.records.specs.declared.Fault.TheVariants.{BadLog, OutOfOrder, ShortTrace}
use Rattle.records.specs.Refusals.{Passed, first_failing}
use Rattle.records.proofs.Searches.{all_passed}
use Rattle.records.proofs.Refusals.{first_passed, passed_first, require-passed, among, only_for, only_require, only_first}
use Rattle.periods.specs.declared.Form.TheVariants.{Wide}
use Rattle.periods.specs.Forms.{period_bytes}
use Rattle.joiner.specs.Limits.{log_record_bytes, max_log_records, log1_place, log2_place}
use Rattle.joiner.specs.Logs.{log_records, number_at, good_record, rises}
use Rattle.joiner.specs.Joined.{joined_count}
use Rattle.joiner.specs.Refusals.{length_test, records_test, log_test, order_test, logs_test, join_test}
use Rattle.joiner.proofs.Logs.{RisingLog}

-- ---- what they show

-- each record passes, where the test does
none_found : (ok : ℕ → Bool) (f : Fault) (log : List ℕ) (first : ℕ) → records_test ok f log first ≡ Passed → (k : ℕ) → k < log_records log → ok k ≡ true
unfolding records_test
none_found ok f log first e =
    let n = log_records log in
    let bad = first_failing ok 0 n in
    all_passed ok n (eqb-true bad n (require-passed (eqb bad n) f (first + bad) e))

module _ (log : List ℕ) (first : ℕ) where
  numbered : log_test log first ≡ Passed → (k : ℕ) → k < log_records log → 0 < number_at log k
  unfolding log_test good_record
  numbered e k h =
      let good = none_found (good_record log) BadLog log first (first_passed (length_test log) _ e).1 k h in
      let other = eqb-false (number_at log k) 0 (not-true (eqb (number_at log k) 0) ((and-eq-true_iff (marked log (log_record_bytes * k) log_mark) _).0 good).1) in
      omega arith

  ordered : order_test log first ≡ Passed → (k : ℕ) → suc k < log_records log → number_at log k < number_at log (suc k)
  unfolding order_test rises
  ordered e k h = ltb-true (number_at log k) (number_at log (suc k)) (none_found (rises log) OutOfOrder log first e (suc k) h)

  pub rising_log : log_test log first ≡ Passed → order_test log first ≡ Passed → RisingLog log
  rising_log e o = record { from_1 = numbered e; rising = ordered o }

-- two logs that pass are good
pub rising_logs : (log1 log2 : List ℕ) → logs_test log1 log2 ≡ Passed → RisingLog log1 × RisingLog log2
unfolding logs_test
rising_logs log1 log2 e =
    let a = first_passed (log_test log1 log1_place) _ e in
    let b = first_passed (log_test log2 log2_place) _ a.1 in
    let c = first_passed (order_test log1 log1_place) (order_test log2 log2_place) b.1 in
    (rising_log log1 log1_place a.0 c.0, rising_log log2 log2_place b.0 c.1)

-- good logs pass at other places too, so they may be exchanged
records_anywhere : (ok : ℕ → Bool) (f : Fault) (log : List ℕ) (p q : ℕ) → records_test ok f log p ≡ Passed → records_test ok f log q ≡ Passed
unfolding records_test
records_anywhere ok f log p q e =
    let bad = first_failing ok 0 (log_records log) in
    rw (require-passed (eqb bad (log_records log)) f (p + bad) e)

log_anywhere : (log : List ℕ) (p q : ℕ) → log_test log p ≡ Passed → log_test log q ≡ Passed
unfolding log_test
log_anywhere log p q e =
    let t = first_passed (length_test log) _ e in
    passed_first (length_test log) _ t.0 (records_anywhere (good_record log) BadLog log p q t.1)

order_anywhere : (log : List ℕ) (p q : ℕ) → order_test log p ≡ Passed → order_test log q ≡ Passed
unfolding order_test
order_anywhere log p q e = records_anywhere (rises log) OutOfOrder log p q e

pub exchanged_logs : (log1 log2 : List ℕ) → logs_test log1 log2 ≡ Passed → logs_test log2 log1 ≡ Passed
unfolding logs_test
exchanged_logs log1 log2 e =
    let a = first_passed (log_test log1 log1_place) _ e in
    let b = first_passed (log_test log2 log2_place) _ a.1 in
    let c = first_passed (order_test log1 log1_place) (order_test log2 log2_place) b.1 in
    passed_first (log_test log2 log1_place) _ (log_anywhere log2 log2_place log1_place b.0)
    (passed_first (log_test log1 log2_place) _ (log_anywhere log1 log1_place log2_place a.0)
    (passed_first (order_test log2 log1_place) (order_test log1 log2_place) (order_anywhere log2 log2_place log1_place c.1) (order_anywhere log1 log1_place log2_place c.0)))

-- join's tests show it of its logs, and that the trace has room
module _ (log1 log2 trace : List ℕ) (e : join_test log1 log2 trace ≡ Passed) where
  enough : Bool
  enough = leb (period_bytes Wide * joined_count log1 log2) (length trace)

  pub logs_passed : logs_test log1 log2 ≡ Passed
  unfolding join_test
  logs_passed = (first_passed (logs_test log1 log2) _ e).0

  pub has_room : period_bytes Wide * joined_count log1 log2 ≤ length trace
  unfolding join_test enough
  has_room = leb-true (period_bytes Wide * joined_count log1 log2) (length trace) (require-passed enough ShortTrace 0 (first_passed (logs_test log1 log2) _ e).1)

-- ---- which faults they can give

abbrev pub join_faults : List Fault
join_faults = BadLog ∷ OutOfOrder ∷ ShortTrace ∷ []

records_only : (ok : ℕ → Bool) (f : Fault) (log : List ℕ) (first : ℕ) → among join_faults f ≡ true → only_for join_faults (records_test ok f log first) ≡ true
unfolding records_test
records_only ok f log first h = only_require join_faults f h (eqb (first_failing ok 0 (log_records log)) (log_records log)) _

log_only : (log : List ℕ) (first : ℕ) → only_for join_faults (log_test log first) ≡ true
unfolding log_test length_test
log_only log first =
    only_first join_faults (length_test log) _
    (only_require join_faults BadLog refl (eqb (length log % log_record_bytes) 0 && leb (log_records log) max_log_records) 0)
    (records_only (good_record log) BadLog log first refl)

order_only : (log : List ℕ) (first : ℕ) → only_for join_faults (order_test log first) ≡ true
unfolding order_test
order_only log first = records_only (rises log) OutOfOrder log first refl

pub join_only : (log1 log2 trace : List ℕ) → only_for join_faults (join_test log1 log2 trace) ≡ true
unfolding join_test logs_test
join_only log1 log2 trace =
    only_first join_faults (logs_test log1 log2) _
    (only_first join_faults (log_test log1 log1_place) _ (log_only log1 log1_place)
    (only_first join_faults (log_test log2 log2_place) _ (log_only log2 log2_place)
    (only_first join_faults (order_test log1 log1_place) (order_test log2 log2_place) (order_only log1 log1_place) (order_only log2 log2_place))))
    (only_require join_faults ShortTrace refl (leb (period_bytes Wide * joined_count log1 log2) (length trace)) 0)
