-- The first failing number of a search.
use Prim.Native.Nat.{ℕ, zero, suc, ◌+◌, ◌-◌, ◌≤◌, ◌<◌}
use native.Mathlib.Nat.{zero-add, add-zero, add-suc, suc-add, le_refl}
use native.Mathlib.Omega.{arith}
use mathlib.Core.Path.{◌≡◌, refl, sym, ◌∙◌}
use mathlib.Core.Bool.{Bool, true, false, false≢true}
use mathlib.Core.Logic.{⊎_elim}
use Rattle.records.specs.Refusals.{first_failing}
use Rattle.records.proofs.Cases.{lt_or_le, true_or_false}

module _ (ok : ℕ → Bool) where
  pub failing_none : (k : ℕ) → first_failing ok k 0 ≡ k
  unfolding first_failing
  failing_none k = refl

  pub failing_on : (k n : ℕ) → ok k ≡ true → first_failing ok k (suc n) ≡ first_failing ok (suc k) n
  unfolding first_failing
  failing_on k n e = rw e

  pub failing_stop : (k n : ℕ) → ok k ≡ false → first_failing ok k (suc n) ≡ k
  unfolding first_failing
  failing_stop k n e = rw e

  -- ---- a loop that stands at k of n numbers

  pub failing_next : (k n : ℕ) → k < n → ok k ≡ true → first_failing ok k (n - k) ≡ first_failing ok (k + 1) (n - (k + 1))
  failing_next k n h e =
      let s : n - k ≡ suc (n - (k + 1)) = omega arith in
      let t : k + 1 ≡ suc k = omega arith in
      rw (s, failing_on k (n - (k + 1)) e, t)

  pub failing_here : (k n : ℕ) → k < n → ok k ≡ false → first_failing ok k (n - k) ≡ k
  failing_here k n h e =
      let s : n - k ≡ suc (n - (k + 1)) = omega arith in
      rw s (failing_stop k (n - (k + 1)) e)

  pub failing_end : (k n : ℕ) → n ≤ k → first_failing ok k (n - k) ≡ k
  failing_end k n h =
      let s : n - k ≡ 0 = omega arith in
      rw s (failing_none k)

  -- ---- what the result says

  pub failing_max : (k n : ℕ) → first_failing ok k n ≤ k + n
  failing_max k zero = rw (failing_none k, add-zero) (le_refl k)
  failing_max k (suc n) =
      ⊎_elim
      (λ e. rw (failing_on k n e, add-suc, ← suc-add) (failing_max (suc k) n))
      (λ e. rw (failing_stop k n e) (omega arith))
      (true_or_false (ok k))

  -- below it every number passes
  pub failing_below : (k n i : ℕ) → k ≤ i → i < first_failing ok k n → ok i ≡ true
  failing_below k zero i h b = let b' = rw failing_none at b in absurd (omega arith)
  failing_below k (suc n) i h b =
      ⊎_elim
      (λ e. let b' = rw (failing_on k n e) at b in
      ⊎_elim
      (λ l. let s : i ≡ k = omega arith in rw s e)
      (λ l. failing_below (suc k) n i l b')
      (lt_or_le i (suc k)))
      (λ e. let b' = rw (failing_stop k n e) at b in absurd (omega arith))
      (true_or_false (ok k))

  -- and where it is a number of the search, that one fails
  pub failing_fails : (k n : ℕ) → first_failing ok k n < k + n → ok (first_failing ok k n) ≡ false
  failing_fails k zero b = let b' = rw (failing_none, add-zero) at b in absurd (omega arith)
  failing_fails k (suc n) b =
      ⊎_elim
      (λ e. rw (failing_on k n e) (failing_fails (suc k) n (rw (failing_on k n e, add-suc, ← suc-add) at b)))
      (λ e. rw (failing_stop k n e) e)
      (true_or_false (ok k))

  -- no number fails exactly where each passes
  pub none_fails : (k n : ℕ) → ((i : ℕ) → k ≤ i → i < k + n → ok i ≡ true) → first_failing ok k n ≡ k + n
  none_fails k zero h = failing_none k ∙ sym (add-zero k)
  none_fails k (suc n) h =
      rw (failing_on k n (h k (le_refl k) (omega arith)), add-suc, ← suc-add)
      (none_fails (suc k) n (λ i a b. h i (omega arith) (omega arith)))

  pub all_pass : (n : ℕ) → ((i : ℕ) → i < n → ok i ≡ true) → first_failing ok 0 n ≡ n
  all_pass n h = none_fails 0 n (λ i a b. h i (omega arith)) ∙ zero-add n

  pub all_passed : (n : ℕ) → first_failing ok 0 n ≡ n → (i : ℕ) → i < n → ok i ≡ true
  all_passed n e i b = failing_below 0 n i (omega arith) (rw e b)

-- where just the numbers before k pass, it is k
pub failing_is : (ok : ℕ → Bool) (n k : ℕ) → k < n → ((i : ℕ) → i < k → ok i ≡ true) → ok k ≡ false → first_failing ok 0 n ≡ k
failing_is ok n k h below here =
    let f = first_failing ok 0 n in
    ⊎_elim (λ (l : f < k). absurd (false≢true (sym (failing_fails ok 0 n (omega arith)) ∙ below f l)))
    (λ l. ⊎_elim (λ (m : k < f). absurd (false≢true (sym here ∙ failing_below ok 0 n k (omega arith) m))) (λ m. omega arith) (lt_or_le k f))
    (lt_or_le f k)

-- two conditions that agree on these numbers have the same first one
pub failing_same : (ok other : ℕ → Bool) (k n : ℕ) → ((i : ℕ) → i < k + n → ok i ≡ other i) → first_failing ok k n ≡ first_failing other k n
unfolding first_failing
failing_same ok other k zero h = refl
failing_same ok other k (suc n) h = rw (h k (omega arith), failing_same ok other (suc k) n (λ i l. h i (omega arith)))
