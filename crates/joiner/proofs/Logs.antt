-- A log whose numbers rise says of each period what its record of that number says, and nothing of the others. Document 02, "Join the two
-- parties' logs".
use Prim.Native.Nat.{ℕ, zero, suc, ◌-◌, ◌<◌, ◌≤◌}
use native.Mathlib.Omega.{arith}
use mathlib.Core.Bool.{not, ◌||◌}
use mathlib.Core.List.{List}
use mathlib.Core.Logic.{⊎_elim}
use mathlib.Core.Path.{◌≡◌, refl}
use borrow.Author.Tests.{lt-ltb, le-ltb, eq-eqb, ne_eqb}
use lib.Dec.{eqb, ltb}
use Rattle.records.proofs.Cases.{lt_or_le}
use Rattle.records.proofs.Searches.{all_pass, failing_is}
use Rattle.joiner.specs.Logs.{log_records, number_at, attempts_at, rises, record_with, has_period, attempts_in, last_number}

-- the first record has none before it
pub rises_is : (log : List ℕ) (k : ℕ) → rises log k ≡ (eqb k 0 || ltb (number_at log (k - 1)) (number_at log k))
unfolding rises
rises_is log zero = refl
rises_is log (suc k) = let e : suc k - 1 ≡ k = omega arith in rw (e, ne_eqb (suc k) 0 (λ h. omega arith))

-- what 14 and 15 show of the numbers of a log that passes them
pub record RisingLog (log : List ℕ) : Type 0 where
  pub from_1 : (k : ℕ) → k < log_records log → 0 < number_at log k
  pub rising : (k : ℕ) → suc k < log_records log → number_at log k < number_at log (suc k)

-- a period that the log lacks
pub lacks : (log : List ℕ) (p : ℕ) → ((k : ℕ) → k < log_records log → ¬ (number_at log k ≡ p)) → attempts_in log p ≡ 0
unfolding attempts_in has_period record_with
lacks log p h =
    let n = log_records log in
    rw (all_pass (λ (k : ℕ). not (eqb (number_at log k) p)) n (λ i l. rw (ne_eqb (number_at log i) p (h i l))), le-ltb n n (omega arith))

module _ (log : List ℕ) (g : RisingLog log) where
  -- each number is above all before it
  pub above : (i k : ℕ) → i < k → k < log_records log → number_at log i < number_at log k
  above i zero h l = absurd (omega arith)
  above i (suc k) h l =
      let r = g.rising k l in
      ⊎_elim (λ (j : i < k). let a = above i k j (omega arith) in omega arith) (λ (j : k ≤ i). let e : i ≡ k = omega arith in rw e r) (lt_or_le i k)

  -- a period that the log has: record k's number is no other's
  pub has : (k : ℕ) → k < log_records log → attempts_in log (number_at log k) ≡ attempts_at log k
  unfolding attempts_in has_period record_with
  has k l =
      let n = log_records log in
      let p = number_at log k in
      let found =
      failing_is (λ (i : ℕ). not (eqb (number_at log i) p)) n k l (λ i j. rw (ne_eqb (number_at log i) p (λ e. let a = above i k j l in omega arith)))
      (rw (eq-eqb p p refl)) in
      rw (found, lt-ltb k n l)

  -- and the last is not below any, so that no record is left out of the trace
  pub reaches : (k : ℕ) → k < log_records log → number_at log k ≤ last_number log
  unfolding last_number
  reaches k l =
      let n = log_records log in
      rw (ne_eqb n 0 (λ e. omega arith))
      (⊎_elim (λ (h : k < n - 1). let a = above k (n - 1) h (omega arith) in omega arith) (λ (h : n - 1 ≤ k). let e : k ≡ n - 1 = omega arith in rw e (omega arith)) (lt_or_le k (n - 1)))
