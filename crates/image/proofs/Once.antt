-- What happens at one period of a list of periods, or not at all: decisions and acceptances do.
use Prim.Native.Nat.{ℕ, suc, ◌≤◌, ◌<◌}
use native.Mathlib.Omega.{arith}
use mathlib.Core.Bool.{Bool, true, false, cond}
use mathlib.Core.List.{List, [], ◌∷◌, ◌++◌}
use mathlib.Core.Logic.{◌⊎◌, inl, inr, ⊎_elim}
use mathlib.Core.Option.{Option, none, some, none-ne-some, some-ne-none}
use mathlib.Core.Path.{◌≡◌, refl, sym, ap, ◌∙◌, subst}
use borrow.Author.Tests.{le-ltb}
use lib.Dec.{eqb, ltb}
use lib.ListN.{length, take, length-append}
use lib.Seq.{take-append_seam}
use Rattle.records.proofs.Cases.{lt_or_le}
use Rattle.periods.specs.Periods.{Period}
use Rattle.contract.proofs.Readings.{Between, happened_by}

-- f is a period of the list at which something happens: none so far, or one that stays when the list grows
pub record Once (f : List Period → Option ℕ) : Type 0 where
  pub between : (w : List Period) → Between (length w) (f w)
  pub stays : (w : List Period) (p : Period) (k : ℕ) → f w ≡ some k → f (w ++ (p ∷ [])) ≡ some k
  pub only_now : (w : List Period) (p : Period) → f w ≡ none → (f (w ++ (p ∷ [])) ≡ none) ⊎ (f (w ++ (p ∷ [])) ≡ some (suc (length w)))

abbrev pub is_at : Option ℕ → ℕ → Bool
is_at none n = false
is_at (some k) n = eqb k n

abbrev pub is_some : Option ℕ → Bool
is_some none = false
is_some (some k) = true

-- it happens in the last period of what has been read
abbrev pub happens : (List Period → Option ℕ) → Option (List Period) → Bool
happens f none = false
happens f (some w) = is_at (f w) (length w)

pub length-snoc : (w : List Period) (p : Period) → length (w ++ (p ∷ [])) ≡ suc (length w)
length-snoc w p = rw (length-append w (p ∷ [])) (omega arith)

-- ---- with one period more

-- before and after the period that follows n others: it has not happened, happens now, has just happened, or is past
pub data Grown (n : ℕ) : (before after : Option ℕ) → Type 0 where
  waiting : Grown n none none
  happening : Grown n none (some (suc n))
  just : Grown n (some n) (some n)
  past : {k : ℕ} → k < n → Grown n (some k) (some k)

between_none : (r : Option ℕ) → Between 0 r → r ≡ none
between_none none b = refl
between_none (some k) b = absurd (omega arith)

module _ {f : List Period → Option ℕ} (o : Once f) where
  pub grown : (w : List Period) (p : Period) → Grown (length w) (f w) (f (w ++ (p ∷ [])))
  grown w p = go (f w) refl (o.between w)
    where
      go : (r : Option ℕ) → f w ≡ r → Between (length w) r → Grown (length w) r (f (w ++ (p ∷ [])))
      go none e b = ⊎_elim (λ i. rw i waiting) (λ i. rw i happening) (o.only_now w p e)
      go (some k) e b = rw (o.stays w p k e) (⊎_elim (λ l. past l) last (lt_or_le k (length w)))
        where
          last : length w ≤ k → Grown (length w) (some k) (some k)
          last l = let same : length w ≡ k = omega arith in subst (λ (j : ℕ). Grown (length w) (some j) (some j)) same just

  pub none_yet : f [] ≡ none
  none_yet = between_none (f []) (o.between [])

  -- nothing is past in the first period
  pub first_period_lem : (p : Period) → (f (p ∷ []) ≡ none) ⊎ (f (p ∷ []) ≡ some 1)
  first_period_lem p = o.only_now [] p none_yet

-- ---- by the beginnings of a list

still : (n : ℕ) (r : Option ℕ) (k : ℕ) → happened_by n r ≡ some k → r ≡ some k
still n none k e = absurd (none-ne-some k e)
still n (some j) k e = go (ltb n j) e
  where
    go : (t : Bool) → cond t none (some j) ≡ some k → some j ≡ some k
    go true e = absurd (none-ne-some k e)
    go false e = e

newly : (n : ℕ) (r : Option ℕ) → Between (suc n) r → happened_by n r ≡ none → (r ≡ none) ⊎ (r ≡ some (suc n))
newly n none b e = inl refl
newly n (some k) b e = ⊎_elim (λ l. inr (ap some (omega arith))) (λ l. absurd (some-ne-none k (rw (le-ltb n k l) at e))) (lt_or_le n k)

-- something happens once if the first n periods show what of the whole list has happened by period n
pub once_by : (f : List Period → Option ℕ) → ((n : ℕ) (w : List Period) → f (take n w) ≡ happened_by n (f w)) → ((w : List Period) → Between (length w) (f w))
    → Once f
once_by f beginnings bounded =
    record {
      between = bounded;
      stays = λ w p k e. still (length w) (f (w ++ (p ∷ []))) k (sym (before w p) ∙ e);
      only_now = λ w p e. newly (length w) (f (w ++ (p ∷ []))) (rw (length-snoc w p) at (bounded (w ++ (p ∷ [])))) (sym (before w p) ∙ e);
    }
  where
    before : (w : List Period) (p : Period) → f w ≡ happened_by (length w) (f (w ++ (p ∷ [])))
    before w p = rw (take-append_seam w (p ∷ [])) at (beginnings (length w) (w ++ (p ∷ [])))
