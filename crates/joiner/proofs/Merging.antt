-- Where the merge stands in a log whose numbers rise, period by period.
use Prim.Native.Nat.{ℕ, suc, ◌+◌, ◌<◌, ◌≤◌}
use native.Mathlib.Omega.{arith}
use mathlib.Core.Bool.{Bool, true, false, and-eq-true_iff}
use mathlib.Core.List.{List}
use mathlib.Core.Logic.{⊎_elim}
use mathlib.Core.Path.{◌≡◌, refl, sym, ◌∙◌}
use borrow.Author.Tests.{lt-ltb, eqb-true, eqb-false, ltb-true}
use lib.Dec.{ltb}
use Rattle.records.proofs.Cases.{lt_or_le}
use Rattle.joiner.specs.Logs.{log_records, number_at, attempts_in}
use Rattle.joiner.specs.Merging.{is_of, attempts_next, record_next}
use Rattle.joiner.proofs.Logs.{RisingLog, lacks, above, has}

-- after period p a log stands at record k: the records before it are of periods up to p, and it is of a later one
pub record StandsAt (log : List ℕ) (p k : ℕ) : Type 0 where
  pub within : k ≤ log_records log
  pub before : (i : ℕ) → i < k → number_at log i ≤ p
  pub ahead : k < log_records log → p < number_at log k

-- a record of a period is there
is_of_inside : (log : List ℕ) (k p : ℕ) → is_of log k p ≡ true → (k < log_records log) × (number_at log k ≡ p)
unfolding is_of
is_of_inside log k p e =
    let t = (and-eq-true_iff (ltb k (log_records log)) _).0 e in
    (ltb-true k (log_records log) t.0, eqb-true (number_at log k) p t.1)

is_not_of : (log : List ℕ) (k p : ℕ) → is_of log k p ≡ false → k < log_records log → ¬ (number_at log k ≡ p)
unfolding is_of
is_not_of log k p e l = eqb-false (number_at log k) p (rw (lt-ltb k (log_records log) l) at e)

module _ (log : List ℕ) (g : RisingLog log) where
  -- before period 1 it stands at record 0
  pub stands_first : StandsAt log 0 0
  stands_first = record { within = omega arith; before = λ i h. absurd (omega arith); ahead = λ h. g.from_1 0 h }

  module _ (p k : ℕ) (s : StandsAt log p k) where
    -- what its party tries in the next period
    pub tries_next : attempts_next log k (p + 1) ≡ attempts_in log (suc p)
    unfolding attempts_next
    tries_next = go (is_of log k (p + 1)) refl
      where
        go : (t : Bool) → is_of log k (p + 1) ≡ t → attempts_next log k (p + 1) ≡ attempts_in log (suc p)
        go true e =
            let i = is_of_inside log k (p + 1) e in
            let n : number_at log k ≡ suc p = i.1 ∙ omega arith in
            rw (e, ← n) (sym (has log g k i.0))
        go false e = rw e (sym (lacks log (suc p) (λ i l j. other i l j)))
          where
            other : (i : ℕ) → i < log_records log → ¬ (number_at log i ≡ suc p)
            other i l j =
                ⊎_elim (λ (b : i < k). let m = s.before i b in omega arith)
                (λ (b : k ≤ i).
                let a = s.ahead (omega arith) in
                ⊎_elim (λ (c : k < i). let m = above log g k i c l in let q = is_not_of log k (p + 1) e (omega arith) in omega arith)
                (λ (c : i ≤ k). let m : i ≡ k = omega arith in is_not_of log k (p + 1) e (omega arith) (rw (← m) (j ∙ omega arith))) (lt_or_le k i))
                (lt_or_le i k)

    -- and where it stands then
    pub stands_next : StandsAt log (p + 1) (record_next log k (p + 1))
    unfolding record_next
    stands_next = go (is_of log k (p + 1)) refl
      where
        go : (t : Bool) → is_of log k (p + 1) ≡ t → StandsAt log (p + 1) (record_next log k (p + 1))
        go true e =
            let i = is_of_inside log k (p + 1) e in
            rw e
            record {
              within = omega (arith, i.0);
              before = λ j l. ⊎_elim (λ (b : j < k). let m = s.before j b in omega arith) (λ (b : k ≤ j). let m : j ≡ k = omega arith in rw m (omega (arith, i.1))) (lt_or_le j k);
              ahead = λ l. let m : k + 1 ≡ suc k = omega arith in let r = g.rising k (omega arith) in rw m (omega (arith, i.1));
            }
        go false e =
            rw e
            record {
              within = s.within;
              before = λ j l. let m = s.before j l in omega arith;
              ahead = λ l. let a = s.ahead l in let q = is_not_of log k (p + 1) e l in above_next a q;
            }
          where
            above_next : p < number_at log k → ¬ (number_at log k ≡ p + 1) → p + 1 < number_at log k
            above_next a q = ⊎_elim (λ (b : p + 1 < number_at log k). b) (λ (b : number_at log k ≤ p + 1). absurd (q (omega arith))) (lt_or_le (p + 1) (number_at log k))
