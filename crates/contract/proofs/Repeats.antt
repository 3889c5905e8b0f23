-- Repeat without an allowance: it means what its clause means and, after a satisfaction at k, what the same repeat means from period k + 1; it is never
-- satisfied. Document 01, "Meaning of clauses".
use Prim.Native.Nat.{ℕ, zero, suc, ◌≤◌}
use native.Mathlib.Nat.{le_refl}
use native.Mathlib.Omega.{arith}
use mathlib.Core.Bool.{Bool, true, false, false≢true}
use mathlib.Core.List.{List}
use mathlib.Core.Path.{◌≡◌, refl, sym, ap, ◌∙◌}
use lib.ListN.{length, drop, length-drop}
use lib.Seq.{take-length}
use Rattle.periods.specs.Periods.{Period}
use Rattle.contract.specs.Meaning.{Clause, repeat, Decision, undecided, satisfied, violated, later, after, then_meaning, repeat_meaning, meaning, EmptyFree}
use Rattle.contract.proofs.Meaning.{decided_by, decision_within, stable, by_repeat}

module _ (c : Clause) (g : EmptyFree c) where
  -- any allowance that covers the periods will do
  allowed : (n : ℕ) (w : List Period) → length w ≤ n → repeat_meaning (meaning c) n w ≡ meaning (repeat c) w
  unfolding meaning
  allowed n w h = at_most n h ∙ sym (at_most (length w) (le_refl (length w)))
    where
      at_most : (n : ℕ) → length w ≤ n → repeat_meaning (meaning c) n w ≡ decided_by (length w) (repeat_meaning (meaning c) (length w) w)
      at_most n h =
          rw (take-length w) at
          (by_repeat (meaning c) (decision_within c g) (stable c g) (length w) n (length w) w (le_refl (length w)) (rw (take-length w) h))

  -- a clause repeated is the clause, then the clause repeated
  pub repeat_is_then : (w : List Period) → meaning (repeat c) w ≡ then_meaning (meaning c w) (after (meaning (repeat c)) w)
  unfolding repeat_meaning
  repeat_is_then w = sym (allowed (suc (length w)) w (omega arith)) ∙ go (meaning c w)
    where
      go : (d : Decision) → then_meaning d (after (repeat_meaning (meaning c) (length w)) w) ≡ then_meaning d (after (meaning (repeat c)) w)
      go undecided = refl
      go (satisfied k) = ap (later k) (allowed (length w) (drop k w) (rw (length-drop k w) (omega arith)))
      go (violated k b) = refl

-- ---- never satisfied

abbrev is_satisfied : Decision → Bool
is_satisfied undecided = false
is_satisfied (satisfied k) = true
is_satisfied (violated k b) = false

not-later : (j : ℕ) (d : Decision) → is_satisfied (later j d) ≡ is_satisfied d
not-later j undecided = refl
not-later j (satisfied k) = refl
not-later j (violated k b) = refl

not_then : (d : Decision) (right : ℕ → Decision) → ((k : ℕ) → is_satisfied (right k) ≡ false) → is_satisfied (then_meaning d right) ≡ false
not_then undecided right h = refl
not_then (satisfied k) right h = h k
not_then (violated k b) right h = refl

not_repeated : (m : List Period → Decision) (n : ℕ) (w : List Period) → is_satisfied (repeat_meaning m n w) ≡ false
unfolding repeat_meaning
not_repeated m zero w = refl
not_repeated m (suc n) w =
    not_then (m w) (after (repeat_meaning m n) w) (λ k. not-later k (repeat_meaning m n (drop k w)) ∙ not_repeated m n (drop k w))

pub repeat_not_satisfied : (c : Clause) (w : List Period) (k : ℕ) → ¬ (meaning (repeat c) w ≡ satisfied k)
unfolding meaning
repeat_not_satisfied c w k e = false≢true (sym (not_repeated (meaning c) (length w) w) ∙ ap is_satisfied e)
