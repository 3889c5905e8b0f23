-- The row machine keeps states sound, counts periods, and never changes a decision.
use Prim.Native.Nat.{ℕ, zero, suc, ◌+◌, ◌≤◌}
use native.Mathlib.Nat.{add-zero}
use native.Mathlib.Numerals.{add-one}
use native.Mathlib.Omega.{arith}
use mathlib.Core.Bool.{Bool, true, false, ◌||◌, cond}
use mathlib.Core.List.{List, [], ◌∷◌, ◌++◌, map}
use mathlib.Core.Path.{◌≡◌, refl, sym, ◌∙◌}
use borrow.Author.Tests.{eq-eqb, ne_eqb}
use lib.Dec.{eqb}
use lib.ListN.{length, get_or, length-append, length-map, get_or-map}
use Rattle.periods.specs.Periods.{Period}
use Rattle.layout.specs.Rows.{Row}
use Rattle.layout.specs.Images.{Image}
use Rattle.states.specs.States.{State, all_at_most}
use Rattle.states.specs.Premises.{SoundHead, undecided, satisfied, violated}
use Rattle.states.proofs.Values.{at_all_at_most}
use Rattle.states.proofs.Soundness.{Sound, values≤}
use Rattle.machine.proofs.Deciding.{decision_some}
use Rattle.machine.specs.Machine.{byte_of, is_true, new_values, values_after, outcome_of, blame_of, computed, counted, after_period, after_periods}

-- ---- row values

pub byte_of_le : (a : Bool) → byte_of a ≤ 1
byte_of_le true = omega arith
byte_of_le false = omega arith

pub is_true-byte_of : (a : Bool) → is_true (byte_of a) ≡ a
is_true-byte_of true = refl
is_true-byte_of false = refl

pub length-new_values : (first : Bool) (p : Period) (old : List Bool) (rows : List Row) (n : ℕ) → length (new_values first p old rows n) ≡ n
unfolding new_values
length-new_values first p old rows zero = refl
length-new_values first p old rows (suc n) = rw (length-append, length-new_values first p old rows n) (add-one n)

-- ---- a period on an undecided and on a decided state

module _ (m : Image) (p : Period) (s : State) where
  pub after_undecided : s.outcome ≡ 0 → after_period m p s ≡ computed m (values_after m p s) s
  unfolding after_period
  after_undecided e = rw (eq-eqb s.outcome 0 e)

  pub after_decided : ¬ (s.outcome ≡ 0) → after_period m p s ≡ counted s
  unfolding after_period
  after_decided e = rw (ne_eqb s.outcome 0 e)

  -- the period that decides is the decision period
  pub decides_now : s.outcome ≡ 0 → ¬ ((after_period m p s).outcome ≡ 0) → (after_period m p s).decision ≡ s.periods + 1
  unfolding computed
  decides_now e d =
      let new = values_after m p s in
      let c = after_undecided e in
      rw c (decision_some (get_or new m.S false) (get_or new m.V1 false) (get_or new m.V2 false) (s.periods + 1) (rw c at d))

  -- every period is counted
  pub periods_after_lem : (after_period m p s).periods ≡ s.periods + 1
  unfolding after_period computed counted
  periods_after_lem = count (eqb s.outcome 0)
    where
      count : (t : Bool) → (cond t (computed m (values_after m p s) s) (counted s)).periods ≡ s.periods + 1
      count true = refl
      count false = refl

  pub length-values_after : length (values_after m p s) ≡ length m.rows
  unfolding values_after
  length-values_after = length-new_values (eqb s.periods 0) p (map is_true s.values) m.rows (length m.rows)

-- ---- soundness is kept

violated_now : (b n : ℕ) → 1 ≤ b → b ≤ 3 → SoundHead 2 b (n + 1) (n + 1)
violated_now b n h k = violated {periods = n + 1} {decision = n + 1} h k (omega arith) (omega arith)

decided_head : (sat v1 v2 : Bool) (n : ℕ) → SoundHead (outcome_of sat v1 v2) (blame_of v1 v2) (n + 1) (cond (sat || v1 || v2) (n + 1) 0)
decided_head true true true n = violated_now 3 n (omega arith) (omega arith)
decided_head true true false n = violated_now 1 n (omega arith) (omega arith)
decided_head true false true n = violated_now 2 n (omega arith) (omega arith)
decided_head true false false n = satisfied {periods = n + 1} {decision = n + 1} (omega arith) (omega arith)
decided_head false true true n = violated_now 3 n (omega arith) (omega arith)
decided_head false true false n = violated_now 1 n (omega arith) (omega arith)
decided_head false false true n = violated_now 2 n (omega arith) (omega arith)
decided_head false false false n = undecided

counted_head : {o b p d : ℕ} → SoundHead o b p d → SoundHead o b (p + 1) d
counted_head undecided = undecided
counted_head {p = p} (satisfied h k) = satisfied {periods = p + 1} h (omega arith)
counted_head {p = p} (violated g h i k) = violated {periods = p + 1} g h i (omega arith)

byte_values : (new : List Bool) → all_at_most 1 (map byte_of new) ≡ true
byte_values new =
    at_all_at_most 1 (map byte_of new) (λ i. rw (get_or-map byte_of new i false) (byte_of_le (get_or new i false)))

sound-decided : (m : Image) (new : List Bool) (s : State) → Sound (length new) (computed m new s)
unfolding computed
sound-decided m new s =
    record {
      long = length-map new byte_of;
      head = decided_head (get_or new m.S false) (get_or new m.V1 false) (get_or new m.V2 false) s.periods;
      values_sound = rw (ne_eqb (s.periods + 1) 0 (omega arith)) (byte_values new);
    }

sound-counted : {n : ℕ} (s : State) → Sound n s → Sound n (counted s)
unfolding counted
sound-counted {n} s h =
    record { long = h.long; head = counted_head h.head; values_sound = rw (ne_eqb (s.periods + 1) 0 (omega arith)) (values≤ n s h) }

-- a period leaves a sound state with as many row values
pub sound_after : (m : Image) (p : Period) (s : State) → Sound (length m.rows) s → Sound (length m.rows) (after_period m p s)
unfolding after_period
sound_after m p s h = each (eqb s.outcome 0)
  where
    each : (t : Bool) → Sound (length m.rows) (cond t (computed m (values_after m p s) s) (counted s))
    each true = rw (length-values_after m p s) at (sound-decided m (values_after m p s) s)
    each false = sound-counted s h

-- ---- a list of periods

module _ (m : Image) where
  pub after_append : (s : State) (v w : List Period) → after_periods m s (v ++ w) ≡ after_periods m (after_periods m s v) w
  unfolding after_periods
  after_append s [] w = refl
  after_append s (q ∷ v) w = after_append (after_period m q s) v w

  pub after_snoc : (s : State) (w : List Period) (p : Period) → after_periods m s (w ++ (p ∷ [])) ≡ after_period m p (after_periods m s w)
  unfolding after_periods
  after_snoc s w p = after_append s w (p ∷ [])

  pub sound-after_periods : (s : State) (w : List Period) → Sound (length m.rows) s → Sound (length m.rows) (after_periods m s w)
  unfolding after_periods
  sound-after_periods s [] h = h
  sound-after_periods s (p ∷ w) h = sound-after_periods (after_period m p s) w (sound_after m p s h)

  -- every period is counted
  pub periods_after_periods : (s : State) (w : List Period) → (after_periods m s w).periods ≡ s.periods + length w
  unfolding after_periods
  periods_after_periods s [] = sym (add-zero s.periods)
  periods_after_periods s (p ∷ w) =
      periods_after_periods (after_period m p s) w ∙ rw (periods_after_lem m p s) (omega arith)

-- ---- after the decision outcome, blame and decision period never change

-- t has the decision of s
pub record SameDecision (s t : State) : Type 0 where
  pub outcome_same : t.outcome ≡ s.outcome
  pub blame_same : t.blame ≡ s.blame
  pub decision_same : t.decision ≡ s.decision

pub stays_decided : (m : Image) (s : State) (w : List Period) → ¬ (s.outcome ≡ 0) → SameDecision s (after_periods m s w)
unfolding after_periods counted
stays_decided m s [] h = record { outcome_same = refl; blame_same = refl; decision_same = refl }
stays_decided m s (p ∷ w) h =
    let k = stays_decided m (counted s) w h in
    rw (after_decided m p s h) (record { outcome_same = k.outcome_same; blame_same = k.blame_same; decision_same = k.decision_same })
