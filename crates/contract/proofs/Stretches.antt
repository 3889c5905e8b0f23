-- The executable reading of an expression under `until` is document 02's: accepted at the least k such that the stretch from some period to period k is in
-- the set. An expression e that doesn't hold the empty list is accepted there as `when` accepts `seq (star any) e`, which is never rejected; so
-- `until c (seq (star any) e)` means what `until c e` means. Document 02, "An ending that may begin in any period".
use Prim.Native.Nat.{ℕ, zero, suc, ◌-◌, ◌≤◌, ◌<◌, suc-le-suc}
use native.Mathlib.Nat.{le_refl, le_of_lt, le_of_suc-le-suc, not-suc-le-zero}
use native.Mathlib.Omega.{arith}
use mathlib.Core.Bool.{Bool, true, false, ◌||◌, false≢true, not-eq-not}
use mathlib.Core.List.{List, [], ◌∷◌}
use mathlib.Core.Logic.Iff
use mathlib.Core.Logic.{◌↔◌, ◌⊎◌, inl, inr, ⊎_elim}
use mathlib.Core.Option.{Option, none, some}
use mathlib.Core.Path.{◌≡◌, refl, sym, ap, ◌∙◌, subst}
use lib.ListN.{length, take, drop, length-take}
use Rattle.records.proofs.Cases.{or_cases, lt_or_le}
use Rattle.periods.specs.Periods.{Period}
use Rattle.contract.specs.Expressions.{any, holds, Expression, atom, seq, star, Holds, one, join, none, more, splits, member, begins}
use Rattle.contract.specs.Readings.{AcceptedAt, StretchTo, AcceptedFromAny, Reading, pending, accepted, judged, first, reading_to, reading, ends, or_at, acceptance_to, acceptance}
use Rattle.contract.specs.Meaning.{Clause, until, meaning}
use Rattle.contract.proofs.Expressions.{member_iff, begins_iff, some_list}
use Rattle.contract.proofs.Readings.{Between, happened_by, accepted_at, accepted_by_then, accepted_iff, reading-take}

-- ---- the least k

module _ (e : Expression) where
  -- some stretch to the last period, by the number of periods before it
  abbrev StretchFrom : ℕ → List Period → Type 0
  StretchFrom j w = (j < length w) × Holds e (drop j w)

  ends-sound : (w : List Period) → ends e w ≡ true → (j : ℕ) × StretchFrom j w
  unfolding ends
  ends-sound [] h = absurd (false≢true h)
  ends-sound (x ∷ w) h =
      ⊎_elim (λ m. (zero, (omega arith, (member_iff e (x ∷ w)).0 m)))
      (λ t. let s = ends-sound w t in (suc s.0, (suc-le-suc s.1.0, s.1.1)))
      ((or_cases (member e (x ∷ w)) _).0 h)

  ends_complete : (j : ℕ) (w : List Period) → StretchFrom j w → ends e w ≡ true
  unfolding ends
  ends_complete j [] s = absurd (not-suc-le-zero s.0)
  ends_complete zero (x ∷ w) s = (or_cases (member e (x ∷ w)) _).1 (inl ((member_iff e (x ∷ w)).1 s.1))
  ends_complete (suc j) (x ∷ w) s = (or_cases (member e (x ∷ w)) _).1 (inr (ends_complete j w (le_of_suc-le-suc s.0, s.1)))

module _ (e : Expression) (w : List Period) where
  pub ends_iff : (k : ℕ) → k ≤ length w → (ends e (take k w) ≡ true) ↔ StretchTo e w k
  ends_iff k h = (there, back)
    where
      there : ends e (take k w) ≡ true → StretchTo e w k
      there t =
          let s = ends-sound e (take k w) t in
          let i : suc s.0 - 1 ≡ s.0 = omega arith in
          record { from = suc s.0; counted = omega arith; reached = omega (arith, s.1.0, length-take k w); held = rw i s.1.1 }

      back : StretchTo e w k → ends e (take k w) ≡ true
      back s = ends_complete e (s.from - 1) (take k w) (omega (arith, length-take k w, s.counted, s.reached), s.held)

  -- which of the first n periods is the least
  data Found (n : ℕ) : Option ℕ → Type 0 where
    nowhere : ((j : ℕ) → j ≤ n → ¬ StretchTo e w j) → Found n none
    at_least : {k : ℕ} → k ≤ n → StretchTo e w k → ((j : ℕ) → j < k → ¬ StretchTo e w j) → Found n (some k)

  no_period_0 : ¬ StretchTo e w 0
  no_period_0 s = omega (arith, s.counted, s.reached)

  found : (n : ℕ) → n ≤ length w → Found n (acceptance_to e w n)
  unfolding acceptance_to
  found zero h = nowhere (λ j i s. no_period_0 (let z : j ≡ 0 = omega arith in subst (StretchTo e w) z s))
  found (suc n) h = step (acceptance_to e w n) (found n (le_of_lt h)) (ends e (take (suc n) w)) refl
    where
      step : (o : Option ℕ) → Found n o → (t : Bool) → ends e (take (suc n) w) ≡ t → Found (suc n) (or_at o t (suc n))
      step none (nowhere f) true i = at_least (le_refl (suc n)) ((ends_iff (suc n) h).0 i) (λ j l. f j (le_of_suc-le-suc l))
      step none (nowhere f) false i = nowhere (λ j l s. last j (lt_or_le j (suc n)) l s)
        where
          last : (j : ℕ) → (j < suc n) ⊎ (suc n ≤ j) → j ≤ suc n → ¬ StretchTo e w j
          last j (inl l) m s = f j (le_of_suc-le-suc l) s
          last j (inr l) m s =
              let z : j ≡ suc n = omega arith in
              false≢true (sym i ∙ (ends_iff (suc n) h).1 (subst (StretchTo e w) z s))
      step (some k) (at_least l s f) t i = at_least {k = k} (omega arith) s f

  accepted_is : {k : ℕ} → Found (length w) (some k) → AcceptedFromAny e w k
  accepted_is (at_least l s f) = record { within = l; held = s; least = f }

  to_accepted : {k : ℕ} → AcceptedFromAny e w k → {o : Option ℕ} → Found (length w) o → o ≡ some k
  to_accepted {k} a (nowhere f) = absurd (f k a.within a.held)
  to_accepted {k} a (at_least {k = j} l s f) =
      let x : ¬ (j < k) = λ h. a.least j h s in
      let y : ¬ (k < j) = λ h. f k h a.held in
      ap some (omega arith)

  found_all : Found (length w) (acceptance e w)
  unfolding acceptance
  found_all = found (length w) (le_refl (length w))

  pub acceptance_iff : (k : ℕ) → (acceptance e w ≡ some k) ↔ AcceptedFromAny e w k
  acceptance_iff k = (λ h. accepted_is (rw h at found_all), λ a. to_accepted a found_all)

  pub unaccepted_iff : (acceptance e w ≡ none) ↔ ((k : ℕ) → k ≤ length w → ¬ StretchTo e w k)
  unaccepted_iff = (λ h. nowhere_is (rw h at found_all), λ f. to_none f (acceptance e w) refl)
    where
      nowhere_is : Found (length w) none → (k : ℕ) → k ≤ length w → ¬ StretchTo e w k
      nowhere_is (nowhere f) = f

      to_none : ((k : ℕ) → k ≤ length w → ¬ StretchTo e w k) → (o : Option ℕ) → acceptance e w ≡ o → acceptance e w ≡ none
      to_none f none h = h
      to_none f (some k) h = let a = (acceptance_iff k).0 h in absurd (f k a.within a.held)

  pub within-acceptance : Between (length w) (acceptance e w)
  within-acceptance = go (acceptance e w) refl
    where
      go : (o : Option ℕ) → acceptance e w ≡ o → Between (length w) o
      go none h = tt
      go (some k) h = let a = (acceptance_iff k).0 h in omega (arith, a.within, a.held.counted, a.held.reached)

-- ---- by `seq (star any) e`

abbrev pub after_any : Expression → Expression
after_any e = seq (star (atom any)) e

all_any : (w : List Period) → Holds (star (atom any)) w
unfolding holds
all_any [] = none
all_any (x ∷ w) = more (one refl) (all_any w)

-- accepted at k or pending, never rejected
abbrev pub as_read : Option ℕ → Reading
as_read none = pending
as_read (some k) = accepted k

module _ (e : Expression) (guarded : ¬ Holds e []) where
  not_empty : member e [] ≡ false
  not_empty = (not-eq-not {b = false}).0 (λ m. guarded ((member_iff e []).0 m))

  -- any list before, and then one of the set: a stretch to the last period
  splits-ends : (f : List Period → Bool) → ((u : List Period) → f u ≡ true) → (w : List Period) → splits f (member e) w ≡ ends e w
  unfolding splits ends
  splits-ends f t [] = rw (t [], not_empty)
  splits-ends f t (x ∷ w) = rw (t [], splits-ends (λ u. f (x ∷ u)) (λ u. t (x ∷ u)) w)

  pub member_after_any : (w : List Period) → member (after_any e) w ≡ ends e w
  unfolding member
  member_after_any w = splits-ends (member (star (atom any))) (λ u. (member_iff (star (atom any)) u).1 (all_any u)) w

  begins_after_any : (w : List Period) → begins (after_any e) w ≡ true
  begins_after_any w = let s = some_list e in (begins_iff (after_any e) w).1 (s.0, join (all_any w) s.1)

  as_read_lem : (w : List Period) (n : ℕ) → reading_to (after_any e) w n ≡ as_read (acceptance_to e w n)
  unfolding reading_to acceptance_to ends
  as_read_lem w zero = rw (member_after_any [], begins_after_any [])
  as_read_lem w (suc n) =
      rw (as_read_lem w n, member_after_any (take (suc n) w), begins_after_any (take (suc n) w)) (step (acceptance_to e w n) (ends e (take (suc n) w)))
    where
      step : (o : Option ℕ) (t : Bool) → first (as_read o) (judged t true (suc n)) ≡ as_read (or_at o t (suc n))
      step none true = refl
      step none false = refl
      step (some k) t = refl

  pub reading_after_any : (w : List Period) → reading (after_any e) w ≡ as_read (acceptance e w)
  unfolding reading acceptance
  reading_after_any w = as_read_lem w (length w)

  accepted_after_any : (w : List Period) → accepted_at (reading (after_any e) w) ≡ acceptance e w
  accepted_after_any w = rw (reading_after_any w) (same (acceptance e w))
    where
      same : (o : Option ℕ) → accepted_at (as_read o) ≡ o
      same none = refl
      same (some k) = refl

  -- the expression is accepted at k exactly when `seq (star any) e` is accepted at k as `when` reads it
  pub from_any_iff : (w : List Period) (k : ℕ) → AcceptedFromAny e w k ↔ AcceptedAt (after_any e) w k
  from_any_iff w k =
      Iff.trans (Iff.symm (acceptance_iff e w k)) (Iff.trans (same (acceptance e w)) (rw (← reading_after_any w) (accepted_iff (after_any e) w k)))
    where
      same : (o : Option ℕ) → (o ≡ some k) ↔ (as_read o ≡ accepted k)
      same none = (λ h. cc, λ h. cc)
      same (some j) = (λ h. cc, λ h. cc)

  -- what has happened in the first n periods is what of the whole list has happened by period n
  pub acceptance-take : (n : ℕ) (w : List Period) → acceptance e (take n w) ≡ happened_by n (acceptance e w)
  acceptance-take n w =
      rw (← accepted_after_any (take n w), ← accepted_after_any w, reading-take (after_any e) w n) (accepted_by_then n (reading (after_any e) w))

  -- any list before changes nothing
  ends_after_any : (w : List Period) → ends (after_any e) w ≡ ends e w
  unfolding ends
  ends_after_any [] = refl
  ends_after_any (x ∷ w) = rw (member_after_any (x ∷ w), ends_after_any w) (once_more (member e (x ∷ w)) (ends e w))
    where
      once_more : (a b : Bool) → ((a || b) || b) ≡ (a || b)
      once_more true b = refl
      once_more false true = refl
      once_more false false = refl

  acceptance_after_any : (w : List Period) (n : ℕ) → acceptance_to (after_any e) w n ≡ acceptance_to e w n
  unfolding acceptance_to
  acceptance_after_any w zero = refl
  acceptance_after_any w (suc n) = rw (acceptance_after_any w n, ends_after_any (take (suc n) w))

  -- `until c (seq (star any) e)` means the same as `until c e`
  pub until_after_any : (c : Clause) (w : List Period) → meaning (until c (after_any e)) w ≡ meaning (until c e) w
  unfolding meaning acceptance
  until_after_any c w = rw (acceptance_after_any w (length w))
