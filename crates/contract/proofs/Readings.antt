-- The executable reading of an expression under `when` is document 01's: accepted and rejected at the least k, never both, pending otherwise.
-- What a beginning of the list shows is what the whole list has shown by then.
use Prim.Native.Nat.{ℕ, zero, suc, ◌≤◌, ◌<◌, suc-le-suc}
use native.Mathlib.Nat.{le_refl, le_of_lt, le_trans, le_of_suc-le-suc, not-suc-le-zero}
use native.Mathlib.Omega.{arith}
use mathlib.Core.Bool.{Bool, true, false, cond, false≢true}
use mathlib.Core.List.{List, [], ◌++◌}
use mathlib.Core.Logic.{◌↔◌, ◌⊎◌, inl, inr, ⊎_elim}
use mathlib.Core.Option.{Option, none, some}
use mathlib.Core.Path.{◌≡◌, refl, sym, ap, ◌∙◌, subst}
use borrow.Author.Tests.{lt-ltb, le-ltb}
use lib.Dec.{ltb}
use lib.ListN.{length, take, drop, take-append-drop}
use lib.Seq.{take-take, take_all, length-take-le}
use Rattle.records.proofs.Cases.{lt_or_le}
use Rattle.periods.specs.Periods.{Period}
use Rattle.contract.specs.Expressions.{Expression, Holds, member, begins}
use Rattle.contract.specs.Readings.{Dead, AcceptedAt, RejectedAt, Reading, pending, accepted, rejected, judged, first, reading_to, reading}
use Rattle.contract.proofs.Expressions.{member_iff, begins_iff}

-- the first j periods show nothing by themselves
record Silent (e : Expression) (w : List Period) (j : ℕ) : Type 0 where
  unheld : ¬ Holds e (take j w)
  alive : ¬ Dead e (take j w)

-- what the first n periods show
data Shown (e : Expression) (w : List Period) (n : ℕ) : Reading → Type 0 where
  nothing : ((j : ℕ) → j ≤ n → Silent e w j) → Shown e w n pending
  acceptance : {k : ℕ} → k ≤ n → Holds e (take k w) → ((j : ℕ) → j < k → Silent e w j) → Shown e w n (accepted k)
  rejection : {k : ℕ} → k ≤ n → Dead e (take k w) → ((j : ℕ) → j < k → Silent e w j) → Shown e w n (rejected k)

module _ (e : Expression) (w : List Period) where
  -- what the first k periods show by themselves, where the shorter beginnings show nothing
  shown_here : (k : ℕ) (m b : Bool) → member e (take k w) ≡ m → begins e (take k w) ≡ b → ((j : ℕ) → j < k → Silent e w j)
      → Shown e w k (judged m b k)
  shown_here k true b p q s = acceptance (le_refl k) ((member_iff e (take k w)).0 p) s
  shown_here k false false p q s = rejection (le_refl k) (λ v h. false≢true (sym q ∙ (begins_iff e (take k w)).1 (v, h))) s
  shown_here k false true p q s = nothing (λ j h. at j (lt_or_le j k) h)
    where
      here : Silent e w k
      here =
          record {
            unheld = λ h. false≢true (sym p ∙ (member_iff e (take k w)).1 h);
            alive = λ d. let h = (begins_iff e (take k w)).0 q in d h.0 h.1;
          }

      at : (j : ℕ) → (j < k) ⊎ (k ≤ j) → j ≤ k → Silent e w j
      at j (inl l) h = s j l
      at j (inr g) h = let i : k ≡ j = omega arith in subst (Silent e w) i here

  shown : (n : ℕ) → Shown e w n (reading_to e w n)
  unfolding reading_to
  shown zero = shown_here zero (member e []) (begins e []) refl refl (λ j h. absurd (not-suc-le-zero h))
  shown (suc n) = step (reading_to e w n) (shown n)
    where
      step : (r : Reading) → Shown e w n r
          → Shown e w (suc n) (first r (judged (member e (take (suc n) w)) (begins e (take (suc n) w)) (suc n)))
      step pending (nothing s) =
          shown_here (suc n) (member e (take (suc n) w)) (begins e (take (suc n) w)) refl refl (λ j h. s j (le_of_suc-le-suc h))
      step (accepted k) (acceptance l p s) = acceptance {k = k} (omega arith) p s
      step (rejected k) (rejection l d s) = rejection {k = k} (omega arith) d s

  shown_all : Shown e w (length w) (reading e w)
  unfolding reading
  shown_all = shown (length w)

  -- no list that goes on from a beginning with no member has a member for a beginning
  dead_on : (j k : ℕ) → j ≤ k → Dead e (take j w) → ¬ Holds e (take k w)
  dead_on j k h d p =
      let longer : take j w ++ drop j (take k w) ≡ take k w = rw (← take-take j k w h) (take-append-drop j (take k w)) in
      d (drop j (take k w)) (rw longer p)

  accepted_is : {k : ℕ} → Shown e w (length w) (accepted k) → AcceptedAt e w k
  accepted_is (acceptance l p s) = record { within = l; held = p; least = λ j h. (s j h).unheld }

  rejected_is : {k : ℕ} → Shown e w (length w) (rejected k) → RejectedAt e w k
  rejected_is (rejection l d s) =
      record { within = l; dead = d; least = λ j h. (s j h).alive; unaccepted = λ j h a. (s j h).unheld a.held }

  to_accepted : {k : ℕ} → AcceptedAt e w k → {r : Reading} → Shown e w (length w) r → r ≡ accepted k
  to_accepted {k} a (nothing s) = absurd ((s k a.within).unheld a.held)
  to_accepted {k} a (acceptance {k = j} l p s) =
      let x : ¬ (j < k) = λ h. a.least j h p in
      let y : ¬ (k < j) = λ h. (s k h).unheld a.held in
      ap accepted (omega arith)
  to_accepted {k} a (rejection {k = j} l d s) =
      absurd (⊎_elim (λ h. (s k h).unheld a.held) (λ h. dead_on j k h d a.held) (lt_or_le k j))

  to_rejected : {k : ℕ} → RejectedAt e w k → {r : Reading} → Shown e w (length w) r → r ≡ rejected k
  to_rejected {k} d (nothing s) = absurd ((s k d.within).alive d.dead)
  to_rejected {k} d (acceptance {k = j} l p s) =
      absurd (⊎_elim (λ h. d.unaccepted j h (accepted_is (acceptance l p s))) (λ h. dead_on k j h d.dead p) (lt_or_le j k))
  to_rejected {k} d (rejection {k = j} l p s) =
      let x : ¬ (j < k) = λ h. d.least j h p in
      let y : ¬ (k < j) = λ h. (s k h).alive d.dead in
      ap rejected (omega arith)

  pub accepted_iff : (k : ℕ) → (reading e w ≡ accepted k) ↔ AcceptedAt e w k
  accepted_iff k = (λ h. accepted_is (rw h at shown_all), λ a. to_accepted a shown_all)

  pub rejected_iff : (k : ℕ) → (reading e w ≡ rejected k) ↔ RejectedAt e w k
  rejected_iff k = (λ h. rejected_is (rw h at shown_all), λ d. to_rejected d shown_all)

  pub never_both : (j k : ℕ) → AcceptedAt e w j → ¬ RejectedAt e w k
  never_both j k a d =
      let p = (accepted_iff j).1 a in
      let q = (rejected_iff k).1 d in
      let z : ◌≡◌ {A = ℕ} 0 1 = cc in omega arith

  pub pending_iff : (reading e w ≡ pending) ↔ (((k : ℕ) → ¬ AcceptedAt e w k) × ((k : ℕ) → ¬ RejectedAt e w k))
  pending_iff = (
    λ h. (
      λ k a. let p = (accepted_iff k).1 a in let z : ◌≡◌ {A = ℕ} 0 1 = cc in omega arith,
      λ k d. let p = (rejected_iff k).1 d in let z : ◌≡◌ {A = ℕ} 0 1 = cc in omega arith,
    ),
    λ n. to_pending n (reading e w) refl,
  )
    where
      to_pending : ((k : ℕ) → ¬ AcceptedAt e w k) × ((k : ℕ) → ¬ RejectedAt e w k) → (r : Reading) → reading e w ≡ r → reading e w ≡ pending
      to_pending n pending h = h
      to_pending n (accepted k) h = absurd (n.0 k ((accepted_iff k).0 h))
      to_pending n (rejected k) h = absurd (n.1 k ((rejected_iff k).0 h))

-- what has been shown by period n
abbrev pub reading_by : ℕ → Reading → Reading
reading_by n pending = pending
reading_by n (accepted k) = cond (ltb n k) pending (accepted k)
reading_by n (rejected k) = cond (ltb n k) pending (rejected k)

-- what the first k + 1 periods show by themselves has not been shown by period k
by_next : (n k : ℕ) → n ≤ k → (r : Reading) (m b : Bool) → reading_by n r ≡ reading_by n (first r (judged m b (suc k)))
by_next n k h pending true b = rw (lt-ltb n (suc k) (suc-le-suc h))
by_next n k h pending false true = refl
by_next n k h pending false false = rw (lt-ltb n (suc k) (suc-le-suc h))
by_next n k h (accepted j) m b = refl
by_next n k h (rejected j) m b = refl

module _ (e : Expression) (w : List Period) where
  -- what m periods show has been shown by any later period
  shown_by : {m n : ℕ} → m ≤ n → {r : Reading} → Shown e w m r → r ≡ reading_by n r
  shown_by h (nothing s) = refl
  shown_by {n} h (acceptance {k = k} l p s) = rw (le-ltb n k (le_trans l h))
  shown_by {n} h (rejection {k = k} l p s) = rw (le-ltb n k (le_trans l h))

  reading_by_lem : (n m : ℕ) → n ≤ m → reading_to e w n ≡ reading_by n (reading_to e w m)
  unfolding reading_to
  reading_by_lem zero zero h = shown_by h (shown e w zero)
  reading_by_lem (suc n) zero h = absurd (not-suc-le-zero h)
  reading_by_lem n (suc m) h = go (lt_or_le m n) (λ l. reading_by_lem n m l)
    where
      go : (m < n) ⊎ (n ≤ m) → (n ≤ m → reading_to e w n ≡ reading_by n (reading_to e w m))
          → reading_to e w n ≡ reading_by n (reading_to e w (suc m))
      go (inl l) earlier =
          let i : suc m ≡ n = omega arith in
          subst (λ (t : ℕ). reading_to e w t ≡ reading_by t (reading_to e w (suc m))) i (shown_by (le_refl (suc m)) (shown e w (suc m)))
      go (inr l) earlier = earlier l ∙ by_next n m l (reading_to e w m) (member e (take (suc m) w)) (begins e (take (suc m) w))

  -- the reading of a beginning looks at the beginning alone
  reading-within : (n k : ℕ) → k ≤ n → reading_to e (take n w) k ≡ reading_to e w k
  unfolding reading_to
  reading-within n zero h = refl
  reading-within n (suc k) h = rw (reading-within n k (le_of_lt h), take-take (suc k) n w h)

  -- what the first n periods show is what the whole list has shown by period n
  pub reading-take : (n : ℕ) → reading e (take n w) ≡ reading_by n (reading e w)
  unfolding reading
  reading-take n = go (lt_or_le n (length w))
    where
      go : (n < length w) ⊎ (length w ≤ n) → reading_to e (take n w) (length (take n w)) ≡ reading_by n (reading_to e w (length w))
      go (inl l) = rw (length-take-le n w (le_of_lt l), reading-within n n (le_refl n)) (reading_by_lem n (length w) (le_of_lt l))
      go (inr l) = rw (take_all n w l) (shown_by l (shown e w (length w)))

-- ---- the period of something that happens at one period or not at all

-- between period 1 and period n, or not at all
abbrev pub Between : ℕ → Option ℕ → Type 0
Between n none = Unit {0}
Between n (some k) = (1 ≤ k) × (k ≤ n)

-- what has happened by period n
abbrev pub happened_by : ℕ → Option ℕ → Option ℕ
happened_by n none = none
happened_by n (some k) = cond (ltb n k) none (some k)

abbrev pub accepted_at : Reading → Option ℕ
accepted_at pending = none
accepted_at (accepted k) = some k
accepted_at (rejected k) = none

pub accepted_by_then : (n : ℕ) (r : Reading) → accepted_at (reading_by n r) ≡ happened_by n (accepted_at r)
accepted_by_then n pending = refl
accepted_by_then n (accepted k) = elim (ltb n k) as (λ t. accepted_at (cond t pending (accepted k)) ≡ cond t none (some k)) [ true ↦ refl | false ↦ refl ]
accepted_by_then n (rejected k) = elim (ltb n k) as (λ t. accepted_at (cond t pending (rejected k)) ≡ none) [ true ↦ refl | false ↦ refl ]
