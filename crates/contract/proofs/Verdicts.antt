-- A clause decides a list of periods at one period or at none, and a decision stands on every longer list.
use Prim.Native.Nat.{ℕ, ◌≤◌}
use mathlib.Core.List.{List, [], ◌++◌}
use mathlib.Core.Logic.{◌⊎◌, inl, inr, ⊎_elim}
use mathlib.Core.Path.{◌≡◌, refl, sym, ap, ◌∙◌}
use borrow.Author.Tests.{lt-ltb, le-ltb}
use lib.ListN.{length}
use lib.Seq.{take-append_seam}
use Rattle.records.proofs.Cases.{lt_or_le}
use Rattle.periods.specs.Periods.{Period}
use Rattle.contract.specs.Meaning.{Clause, Decision, undecided, satisfied, violated, meaning, EmptyFree}
use Rattle.contract.specs.Verdicts.{decision_period, verdict, DecidesOnce}
use Rattle.contract.proofs.Meaning.{decided_by, Within, decision_within, within_none, not_yet, by_now, stable}

within_cases : (n : ℕ) (d : Decision) → Within n d → (d ≡ undecided) ⊎ ((1 ≤ decision_period d) × (decision_period d ≤ n))
within_cases n undecided p = inl refl
within_cases n (satisfied k) p = inr p
within_cases n (violated k b) p = inr p

verdict_by : (d : Decision) (n : ℕ) → verdict (decided_by n d) n ≡ verdict d n
verdict_by undecided n = refl
verdict_by (satisfied k) n = ⊎_elim (λ l. rw (lt-ltb n k l)) (λ l. rw (le-ltb n k l, le-ltb n k l)) (lt_or_le n k)
verdict_by (violated k b) n = ⊎_elim (λ l. rw (lt-ltb n k l)) (λ l. rw (le-ltb n k l, le-ltb n k l)) (lt_or_le n k)

-- a clause decides a list at one period or at none
pub decides_once : (c : Clause) → EmptyFree c → (w : List Period) → DecidesOnce c w
decides_once c g w =
    record {
      decision = meaning c w;
      nothing_yet = within_none (meaning c []) (decision_within c g []);
      bounds = within_cases (length w) (meaning c w) (decision_within c g w);
      open_before = λ n h. stable c g n w ∙ not_yet n (meaning c w) h;
      same_from = λ n h. stable c g n w ∙ by_now n (meaning c w) h;
      verdicts = λ n h. ap (λ (d : Decision). verdict d n) (stable c g n w) ∙ verdict_by (meaning c w) n;
    }

-- a decision stands, with outcome and blame, on every longer list
pub stands : (c : Clause) → EmptyFree c → (u v : List Period) → ¬ (meaning c u ≡ undecided) → meaning c (u ++ v) ≡ meaning c u
stands c g u v decided =
    ⊎_elim (λ l. absurd (decided (here ∙ not_yet (length u) (meaning c (u ++ v)) l)))
    (λ l. sym (here ∙ by_now (length u) (meaning c (u ++ v)) l))
    (lt_or_le (length u) (decision_period (meaning c (u ++ v))))
  where
    here : meaning c u ≡ decided_by (length u) (meaning c (u ++ v))
    here = rw (take-append_seam u v) at (stable c g (length u) (u ++ v))
