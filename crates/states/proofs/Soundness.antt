-- Which states are sound, by the three cases of their heads. Document 01, "Image and row machine", from "A state is sound".
use Prim.Native.Nat.{ℕ, zero, suc, ◌≤◌, ◌<◌}
use native.Mathlib.Omega.{arith}
use mathlib.Core.Path.{◌≡◌, refl, sym, ◌∙◌}
use mathlib.Core.Bool.{Bool, true, false, ◌&&◌, beq, cond, and-eq-true_iff, and-true, not-eq-not}
use mathlib.Core.Logic.{◌↔◌}
use mathlib.Core.List.{List}
use lib.Dec.{eqb, leb, ltb}
use lib.ListN.{length}
use borrow.Author.Tests.{ltb-true, leb-true, eqb-true, eqb-false, lt-ltb, le-leb, eq-eqb, ne_eqb}
use Rattle.states.specs.States.{State, all_at_most, all_zero, sound}
use Rattle.states.specs.Premises.{SoundHead, undecided, satisfied, violated}
use Rattle.states.proofs.Values.{all_at_most-mono}

-- ---- the head of a sound state

eqb_iff : (a b : ℕ) → (eqb a b ≡ true) ↔ (a ≡ b)
eqb_iff a b = (eqb-true a b, eq-eqb a b)

ltb_iff : (a b : ℕ) → (ltb a b ≡ true) ↔ (a < b)
ltb_iff a b = (ltb-true a b, lt-ltb a b)

leb_iff : (a b : ℕ) → (leb a b ≡ true) ↔ (a ≤ b)
leb_iff a b = (leb-true a b, le-leb a b)

ruleset tests = (and-eq-true_iff, eqb_iff, ltb_iff, leb_iff)

-- outcome by outcome, what tells it
pub undecided_iff : {o b p d : ℕ} → 0 ≡ o → SoundHead o b p d ↔ ((b ≡ 0) × (d ≡ 0))
undecided_iff {b = b} {p = p} {d = d} e = rw (← e) (back, λ h. rw (h.0, h.1) undecided)
  where
    back : {b d : ℕ} → SoundHead 0 b p d → (b ≡ 0) × (d ≡ 0)
    back undecided = (refl, refl)

pub satisfied_iff : {o b p d : ℕ} → 1 ≡ o → SoundHead o b p d ↔ ((b ≡ 0) × (0 < d) × (d ≤ p))
satisfied_iff {b = b} {p = p} {d = d} e = rw (← e) (back, λ h. rw h.0 (satisfied h.1 h.2))
  where
    back : {b : ℕ} → SoundHead 1 b p d → (b ≡ 0) × (0 < d) × (d ≤ p)
    back (satisfied h k) = (refl, h, k)

pub violated_iff : {o b p d : ℕ} → 2 ≡ o → SoundHead o b p d ↔ ((0 < b) × (b ≤ 3) × (0 < d) × (d ≤ p))
violated_iff {b = b} {p = p} {d = d} e = rw (← e) (back, λ h. violated h.0 h.1 h.2 h.3)
  where
    back : SoundHead 2 b p d → (0 < b) × (b ≤ 3) × (0 < d) × (d ≤ p)
    back (violated g h i k) = (g, h, i, k)

pub outcome≤ : {o b p d : ℕ} → SoundHead o b p d → o ≤ 2
outcome≤ undecided = omega arith
outcome≤ (satisfied h k) = omega arith
outcome≤ (violated g h i k) = omega arith

pub decision≤ : {o b p d : ℕ} → SoundHead o b p d → d ≤ p
decision≤ undecided = omega arith
decision≤ (satisfied h k) = k
decision≤ (violated g h i k) = k

-- ---- soundness

-- a sound state of n row values
pub record Sound (n : ℕ) (s : State) : Type 0 where
  pub long : length s.values ≡ n
  pub head : SoundHead s.outcome s.blame s.periods s.decision
  pub values_sound : all_at_most (cond (eqb s.periods 0) 0 1) s.values ≡ true

and_implied : (a b : Bool) → (b ≡ true → a ≡ true) → a && b ≡ b
and_implied true b f = refl
and_implied false true f = f refl
and_implied false false f = refl

-- what `sound` asks of the values: all at most 1, and all 0 where no period is taken
values_test : (t : Bool) (vs : List ℕ) → all_at_most 1 vs && cond t (all_at_most 0 vs) true ≡ all_at_most (cond t 0 1) vs
values_test true vs = and_implied (all_at_most 1 vs) (all_at_most 0 vs) (all_at_most-mono vs (omega arith))
values_test false vs = and-true (all_at_most 1 vs)

-- a state with a sound head is sound as its values are
head_values : {o b p d : ℕ} (vs : List ℕ) → SoundHead o b p d
    → sound (record { outcome = o; blame = b; periods = p; decision = d; values = vs }) ≡ all_at_most (cond (eqb p 0) 0 1) vs
unfolding sound all_zero
head_values vs (undecided {periods = p}) = simp (le-leb 0 p (omega arith), and-true) (values_test (eqb p 0) vs)
head_values vs (satisfied {periods = p} {decision = d} h k) =
    simp (ne_eqb p 0 (omega arith), ne_eqb d 0 (omega arith), le-leb d p k, and-true)
head_values vs (violated {blame = b} {periods = p} {decision = d} g h i k) =
    simp (ne_eqb p 0 (omega arith), ne_eqb d 0 (omega arith), le-leb d p k, le-leb 1 b g, le-leb b 3 h, and-true)

pub sound_values : (s : State) → SoundHead s.outcome s.blame s.periods s.decision
    → sound s ≡ all_at_most (cond (eqb s.periods 0) 0 1) s.values
sound_values s = head_values s.values

beq_true : (t : Bool) → beq t true ≡ true → t ≡ true
beq_true true h = refl
beq_true false h = h

beq_false : (t : Bool) → beq t false ≡ true → t ≡ false
beq_false true h = sym h
beq_false false h = refl

-- the tests that `sound` makes of the head
tests_head : (o b p d : ℕ) → o ≤ 2 → cond (eqb o 2) (leb 1 b && leb b 3) (eqb b 0) ≡ true → beq (eqb d 0) (eqb o 0) ≡ true → d ≤ p → SoundHead o b p d
tests_head zero b p d i j k l = rw (eqb-true b 0 j, eqb-true d 0 (beq_true (eqb d 0) k)) undecided
tests_head (suc zero) b p d i j k l =
    let n = eqb-false d 0 (beq_false (eqb d 0) k) in
    rw (eqb-true b 0 j) (satisfied {decision = d} (omega arith) l)
tests_head (suc (suc zero)) b p d i j k l =
    let e = simp tests at j in
    let n = eqb-false d 0 (beq_false (eqb d 0) k) in
    violated {decision = d} e.0 e.1 (omega arith) l
tests_head (suc (suc (suc o))) b p d i j k l = absurd (omega arith)

pub sound_head : (s : State) → sound s ≡ true → SoundHead s.outcome s.blame s.periods s.decision
unfolding sound
sound_head s h =
    let e = simp tests at h in
    tests_head s.outcome s.blame s.periods s.decision e.0.0.0.0.0 e.0.0.0.1 e.0.0.1 e.0.1

pub unsound : (s : State) → ¬ SoundHead s.outcome s.blame s.periods s.decision → sound s ≡ false
unsound s n = (not-eq-not {b = false}).0 (λ h. n (sound_head s h))

module _ (n : ℕ) (s : State) where
  pub sound_facts : sound s ≡ true → length s.values ≡ n → Sound n s
  sound_facts h l = let k = sound_head s h in record { long = l; head = k; values_sound = sym (sound_values s k) ∙ h }

  pub facts_sound : Sound n s → sound s ≡ true
  facts_sound h = sound_values s h.head ∙ h.values_sound

  -- its row values are 0 or 1
  pub values≤ : Sound n s → all_at_most 1 s.values ≡ true
  values≤ h = go (eqb s.periods 0) h.values_sound
    where
      go : (t : Bool) → all_at_most (cond t 0 1) s.values ≡ true → all_at_most 1 s.values ≡ true
      go true e = all_at_most-mono s.values (omega arith) e
      go false e = e
