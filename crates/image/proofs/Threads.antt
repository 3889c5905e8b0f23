-- Which list of periods a block has read, by the signals that tell it when to read.
-- A part that hands over to another leaves it the rest of the list (`handed_over`); a block that stops when it has decided has read the list
-- as long as it is undecided (`cut_off`).
use Prim.Native.Nat.{ℕ, suc}
use native.Mathlib.Nat.{le_refl}
use native.Mathlib.Omega.{arith}
use mathlib.Core.Bool.{Bool, true, false, not, ◌&&◌, cond, false≢true}
use mathlib.Core.List.{List, [], ◌∷◌, ◌++◌, append-eq-nil_iff, cons-ne-nil}
use mathlib.Core.Logic.{◌↔◌, ◌≢◌, ⊎_elim}
use mathlib.Core.Option.{Option, none, some, none-ne-some, some-injective}
use mathlib.Core.Path.{◌≡◌, refl, sym, ◌∙◌, subst}
use borrow.Author.Tests.{lt-ltb, le-ltb, eq-eqb, ne_eqb}
use lib.Dec.{ltb}
use lib.ListN.{length, drop}
use lib.Seq.{drop-append_seam, drop-append-le}
use Rattle.periods.specs.Periods.{Period}
use Rattle.image.proofs.Signals.{Signal, at, UntilDone, HandsOver}
use Rattle.image.proofs.Once.{Once, is_at, happens, length-snoc, Grown, waiting, happening, just, past, grown, first_period_lem}

-- ---- threads

-- w has been read up to now by a thread that S began and K kept going ever since
pub data Active (S K : Signal) : (h w : List Period) → Type 0 where
  started : {p : Period} {h : List Period} → S p h ≡ true → Active S K (p ∷ h) (p ∷ [])
  kept : {p : Period} {h w : List Period} → K p h ≡ true → Active S K h w → Active S K (p ∷ h) (w ++ (p ∷ []))

pub not_empty : {S K : Signal} {h w : List Period} → Active S K h w → (h ≢ []) × (w ≢ [])
not_empty (started {p = p} {h = h} s) = (cons-ne-nil p h, cons-ne-nil p [])
not_empty (kept {p = p} {h = h} {w = w} k a) = (cons-ne-nil p h, λ z. cons-ne-nil p [] ((append-eq-nil_iff {p = w}).0 z).1)

-- never both true
pub record Exclusive (S K : Signal) : Type 0 where
  pub never_both : (p : Period) (h : List Period) → (S p h && K p h) ≡ false

pub exclusive_hands_over : {fired K start go : Signal} → HandsOver fired K start go → Exclusive start go
exclusive_hands_over {fired} {K} w =
    record { never_both = λ p h. rw (w.starts p h, w.goes p h) (one_of (K p h) (at fired h)) }
  where
    one_of : (k f : Bool) → (k && f && (k && not f)) ≡ false
    one_of false f = refl
    one_of true false = refl
    one_of true true = refl

-- what reads by `go` reads until `fired`
pub until_fired : {fired K start go : Signal} → HandsOver fired K start go → UntilDone fired K go
until_fired w = record { goes = w.goes }

pub exclusive_until_done : {S K go done : Signal} → Exclusive S K → UntilDone done K go → Exclusive S go
exclusive_until_done {S} {K} {done = done} x u =
    record { never_both = λ p h. rw (u.goes p h) (less (S p h) (K p h) (not (at done h)) (x.never_both p h)) }
  where
    less : (s k d : Bool) → (s && k) ≡ false → (s && (k && d)) ≡ false
    less false k d e = refl
    less true k d e = rw e

-- a list with one period more, if there is a list
abbrev pub extend : Period → Option (List Period) → Option (List Period)
extend p none = none
extend p (some w) = some (w ++ (p ∷ []))

-- what has been read with a period more, by whether reading begins with it and whether it goes on
abbrev pub read_next : (starts goes : Bool) → Period → Option (List Period) → Option (List Period)
read_next s k p t = cond s (some (p ∷ [])) (cond k (extend p t) none)

-- what has been read up to now, where S and K are never both true
unfoldable pub thread : (S K : Signal) → List Period → Option (List Period)
thread S K [] = none
thread S K (p ∷ h) = read_next (S p h) (K p h) p (thread S K h)

only_kept : (s k : Bool) → (s && k) ≡ false → k ≡ true → s ≡ false
only_kept true k e f = absurd (false≢true (sym e ∙ f))
only_kept false k e f = refl

active_thread : {S K : Signal} → Exclusive S K → {h w : List Period} → Active S K h w → thread S K h ≡ some w
unfolding thread
active_thread x (started s) = rw s
active_thread {S} {K} x (kept {p = p} {h = h} k a) = rw (only_kept (S p h) (K p h) (x.never_both p h) k, k, active_thread x a)

pub thread_is_active : (S K : Signal) (h w : List Period) → thread S K h ≡ some w → Active S K h w
unfolding thread
thread_is_active S K [] w e = absurd (none-ne-some w e)
thread_is_active S K (p ∷ h) w e = go (S p h) refl (K p h) refl (thread S K h) (thread_is_active S K h) e
  where
    go : (s : Bool) → S p h ≡ s → (k : Bool) → K p h ≡ k
        → (t : Option (List Period)) → ((v : List Period) → t ≡ some v → Active S K h v)
        → read_next s k p t ≡ some w → Active S K (p ∷ h) w
    go true s k i t a e = subst (Active S K (p ∷ h)) (some-injective (p ∷ []) w e) (started s)
    go false s false i t a e = absurd (none-ne-some w e)
    go false s true i none a e = absurd (none-ne-some w e)
    go false s true i (some v) a e = subst (Active S K (p ∷ h)) (some-injective (v ++ (p ∷ [])) w e) (kept i (a v refl))

pub thread_active : (S K : Signal) → Exclusive S K → (h w : List Period) → Active S K h w ↔ (thread S K h ≡ some w)
thread_active S K x h w = (active_thread x, thread_is_active S K h w)

-- ---- what is left of the list when something happens

-- what is left of a list after period k, if anything is
abbrev pub rest_after : Option ℕ → List Period → Option (List Period)
rest_after none w = none
rest_after (some k) w = cond (ltb k (length w)) (some (drop k w)) none

abbrev pub handed : (List Period → Option ℕ) → Option (List Period) → Option (List Period)
handed f none = none
handed f (some w) = rest_after (f w) w

-- the list, if period k is not past
abbrev pub unless_past : Option ℕ → List Period → Option (List Period)
unless_past none w = some w
unless_past (some k) w = cond (ltb k (length w)) none (some w)

abbrev pub cut : (List Period → Option ℕ) → Option (List Period) → Option (List Period)
cut f none = none
cut f (some w) = unless_past (f w) w

-- with one period more, what is handed over, and what is not cut off
grows : (w : List Period) (p : Period) (r r' : Option ℕ) → Grown (length w) r r'
    → (read_next (is_at r (length w)) (not (is_at r (length w))) p (rest_after r w) ≡ rest_after r' (w ++ (p ∷ [])))
    × (cond (not (is_at r (length w))) (extend p (unless_past r w)) none ≡ unless_past r' (w ++ (p ∷ [])))
grows w p none none waiting = (refl, refl)
grows w p none (some k) happening = rw (length-snoc w p, le-ltb (suc (length w)) (suc (length w)) (le_refl (suc (length w)))) (refl, refl)
grows w p (some j) none g = elim g [ ]
grows w p (some j) (some k) just =
    rw (
      eq-eqb (length w) (length w) refl,
      length-snoc w p,
      lt-ltb (length w) (suc (length w)) (omega arith),
      drop-append_seam w (p ∷ []),
    ) (refl, refl)
grows w p (some j) (some k) (past l) =
    rw (
      ne_eqb j (length w) (λ e. omega arith),
      lt-ltb j (length w) l,
      length-snoc w p,
      lt-ltb j (suc (length w)) (omega arith),
      drop-append-le j w (p ∷ []) (omega arith),
    ) (refl, refl)

-- a part that starts in the period after `fired` reads the rest of the list from there on
pub handed_over : {f : List Period → Option ℕ} → Once f → {fired S K start go : Signal} → Exclusive S K → HandsOver fired K start go
    → ((h : List Period) → at fired h ≡ happens f (thread S K h))
    → (h : List Period) → thread start go h ≡ handed f (thread S K h)
unfolding thread
handed_over o x w fires [] = refl
handed_over {f} o {S = S} {K} x w fires (p ∷ h) =
    rw (w.starts p h, w.goes p h, fires h, handed_over o x w fires h) (step (S p h) (K p h) (x.never_both p h) (thread S K h))
  where
    step : (s k : Bool) → (s && k) ≡ false → (t : Option (List Period))
        → read_next (k && happens f t) (k && not (happens f t)) p (handed f t) ≡ handed f (read_next s k p t)
    step true true e t = absurd (false≢true (sym e))
    step true false e t = ⊎_elim (λ i. rw i) (λ i. rw i) (first_period_lem o p)
    step false false e t = refl
    step false true e none = refl
    step false true e (some v) = (grows v p (f v) (f (v ++ (p ∷ []))) (grown o v p)).0

-- what stops in the period after `done` has read the list as long as nothing has happened before its last period
pub cut_off : {f : List Period → Option ℕ} → Once f → {done K go : Signal} (S : Signal) → UntilDone done K go
    → ((h : List Period) → thread S go h ≡ cut f (thread S K h) → at done h ≡ happens f (thread S K h))
    → (h : List Period) → thread S go h ≡ cut f (thread S K h)
unfolding thread
cut_off o S w right [] = refl
cut_off {f} o {K = K} S w right (p ∷ h) =
    let earlier = cut_off o S w right h in
    rw (w.goes p h, right h earlier, earlier) (step (S p h) (K p h) (thread S K h))
  where
    step : (s k : Bool) (t : Option (List Period))
        → read_next s (k && not (happens f t)) p (cut f t) ≡ cut f (read_next s k p t)
    step true k t = ⊎_elim (λ i. rw i) (λ i. rw i) (first_period_lem o p)
    step false false t = refl
    step false true none = refl
    step false true (some v) = (grows v p (f v) (f (v ++ (p ∷ []))) (grown o v p)).1
