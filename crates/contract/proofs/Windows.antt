-- A deadline of window 1 means what the plain duty means, and one of window d what d duties nested by repair mean. Document 02, "Duties with a deadline".
use Prim.Native.Nat.{ℕ, zero, suc, ◌-◌}
use native.Mathlib.Omega.{arith}
use mathlib.Core.Bool.{Bool, true, false, ◌&&◌, and_comm, cond}
use mathlib.Core.List.{List, [], ◌∷◌}
use mathlib.Core.Path.{◌≡◌, refl, ap, ◌∙◌}
use lib.ListN.{take, drop}
use Rattle.periods.specs.declared.Party.{Party}
use Rattle.periods.specs.declared.Party.TheVariants.{One as party1, Two as party2}
use Rattle.periods.specs.Periods.{other, Period, tries, succeeds}
use Rattle.contract.specs.Meaning.{only, duty, Clause, literal, deadline, repair, Decision, undecided, satisfied, violated, literal_decision, later, first_success, or_else, repair_meaning, meaning}

-- an action succeeds when its party tries it and the other does
pub by_party : (p : Party) (x : Period) (a : ℕ) → succeeds x a ≡ (tries x p a && tries x (other p) a)
unfolding succeeds
by_party party1 x a = refl
by_party party2 x a = and_comm (tries x party1 a) (tries x party2 a)

later_none : (d : Decision) → later 0 d ≡ d
later_none undecided = refl
later_none (satisfied k) = ap satisfied (omega arith)
later_none (violated k b) = ap (λ (n : ℕ). violated n b) (omega arith)

later-suc : (n : ℕ) (d : Decision) → later (suc n) d ≡ later 1 (later n d)
later-suc n undecided = refl
later-suc n (satisfied k) = ap satisfied (omega arith)
later-suc n (violated k b) = ap (λ (m : ℕ). violated m b) (omega arith)

or_else_later : (n : ℕ) (s last : Decision) → or_else (later n s) (later n last) ≡ later n (or_else s last)
or_else_later n undecided last = refl
or_else_later n (satisfied k) last = refl
or_else_later n (violated k b) last = refl

repair_same : (d : Decision) {f g : ℕ → Decision} → ((k : ℕ) → f k ≡ g k) → repair_meaning d f ≡ repair_meaning d g
repair_same undecided e = refl
repair_same (satisfied k) e = refl
repair_same (violated k b) e = e k

module _ (p : Party) (a : ℕ) where
  -- a window of no period, which no record has, is read as one of a single period
  pub deadline_none : (w : List Period) → meaning (deadline p a 0) w ≡ meaning (literal (duty (only p)) a) w
  unfolding meaning first_success
  deadline_none w = later_none (meaning (literal (duty (only p)) a) w)

  pub deadline_one : (w : List Period) → meaning (deadline p a 1) w ≡ meaning (literal (duty (only p)) a) w
  unfolding meaning first_success
  deadline_one [] = refl
  deadline_one (x ∷ w) = rw (by_party p x a) (go (tries x p a) (tries x (other p) a))
    where
      go : (s t : Bool)
          → or_else (cond (s && t) (satisfied 1) undecided) (later 0 (literal_decision (duty (only p)) s t)) ≡ literal_decision (duty (only p)) s t
      go true true = refl
      go true false = refl
      go false t = refl

  -- one period more: a duty, repaired by the deadline of the others
  pub deadline_more : (n : ℕ) (w : List Period) → meaning (deadline p a (suc (suc n))) w ≡ meaning (repair (literal (duty (only p)) a) (deadline p a (suc n))) w
  unfolding meaning first_success
  deadline_more n [] = let e : suc (suc n) - 1 ≡ suc n = omega arith in rw e refl
  deadline_more n (x ∷ w) =
      let e : suc (suc n) - 1 ≡ suc n = omega arith in
      let i : suc n - 1 ≡ n = omega arith in
      rw (e, i, by_party p x a, later-suc n (meaning (literal (duty (only p)) a) (drop n w))) (go (tries x p a) (tries x (other p) a))
    where
      success : Decision
      success = first_success a (take (suc n) w)

      last : Decision
      last = later n (meaning (literal (duty (only p)) a) (drop n w))

      go : (s t : Bool)
          → or_else (cond (s && t) (satisfied 1) (later 1 success)) (later 1 last)
          ≡ repair_meaning (literal_decision (duty (only p)) s t) (λ k. later k (or_else (first_success a (take (suc n) (drop k (x ∷ w)))) (later n (meaning (literal (duty (only p)) a) (drop n (drop k (x ∷ w)))))))
      go true true = refl
      go true false = or_else_later 1 success last
      go false t = or_else_later 1 success last

  -- d duties nested by repair: n of them and the last
  abbrev pub nested_duties : (n : ℕ) → Clause
  nested_duties zero = literal (duty (only p)) a
  nested_duties (suc n) = repair (literal (duty (only p)) a) (nested_duties n)

  pub deadline_nested : (n : ℕ) (w : List Period) → meaning (deadline p a (suc n)) w ≡ meaning (nested_duties n) w
  unfolding meaning
  deadline_nested zero w = deadline_one w
  deadline_nested (suc n) w = deadline_more n w ∙ repair_same (meaning (literal (duty (only p)) a) w) (λ k. ap (later k) (deadline_nested n (drop k w)))
