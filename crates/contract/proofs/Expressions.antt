-- The tests of expressions decide their sets: `member` the set, `begins` the beginnings of its lists, `holds_empty` the empty list.
use Prim.Native.Nat.{ℕ, zero, suc, ◌^◌, ◌≤◌}
use native.Mathlib.Nat.{le_of_suc-le-suc, not-suc-le-zero}
use native.Mathlib.Omega.{arith}
use mathlib.Core.Bool.{Bool, true, false, ◌&&◌, ◌||◌, and-eq-true_iff, false≢true}
use mathlib.Core.List.{List, [], ◌∷◌, ◌++◌, append_assoc, append-nil}
use mathlib.Core.Logic.{◌↔◌, ◌⊎◌, inl, inr, ⊎_elim}
use mathlib.Core.Path.{◌≡◌, refl, sym, ap, subst}
use lib.ListN.{length, length-append}
use Rattle.records.proofs.Cases.{or_cases}
use Rattle.periods.specs.Periods
use Rattle.periods.specs.declared.Party.{Party}
use Rattle.periods.specs.declared.Party.TheVariants.{One as party1, Two as party2}
use Rattle.periods.specs.Periods.{Period}
use Rattle.periods.proofs.Periods.{bit_own, bit-zero}
use Rattle.contract.specs.Expressions.{Atom, any, tries, idle, succeeds, fails, holds, Expression, atom, seq, or, star, Holds, one, join, left, right, none, more, splits, joins, member, begins, holds_empty}

-- a list of the one set, and then a list of the other
pub record Concat (L M : List Period → Type 0) (w : List Period) : Type 0 where
  pub front : List Period
  pub rest : List Period
  pub whole : w ≡ front ++ rest
  pub held : L front
  pub held_rest : M rest

-- the lists that pass a test
abbrev pub Passes : (List Period → Bool) → List Period → Type 0
Passes f w = f w ≡ true

pub split : (f g : List Period → Bool) (w : List Period) → splits f g w ≡ true → Concat (Passes f) (Passes g) w
unfolding splits
split f g [] h = let b = (and-eq-true_iff (f []) (g [])).0 h in record { front = []; rest = []; whole = refl; held = b.0; held_rest = b.1 }
split f g (x ∷ w) h = ⊎_elim here (λ t. further (split (λ u. f (x ∷ u)) g w t)) ((or_cases (f [] && g (x ∷ w)) _).0 h)
  where
    here : (f [] && g (x ∷ w)) ≡ true → Concat (Passes f) (Passes g) (x ∷ w)
    here t = let b = (and-eq-true_iff (f []) (g (x ∷ w))).0 t in record { front = []; rest = x ∷ w; whole = refl; held = b.0; held_rest = b.1 }

    further : Concat (λ u. f (x ∷ u) ≡ true) (Passes g) w → Concat (Passes f) (Passes g) (x ∷ w)
    further s = record { front = x ∷ s.front; rest = s.rest; whole = ap (λ (r : List Period). x ∷ r) s.whole; held = s.held; held_rest = s.held_rest }

splits_at : (f g : List Period → Bool) (u v : List Period) → f u ≡ true → g v ≡ true → splits f g (u ++ v) ≡ true
unfolding splits
splits_at f g [] [] p q = (and-eq-true_iff _ _).1 (p, q)
splits_at f g [] (x ∷ v) p q = (or_cases _ _).1 (inl ((and-eq-true_iff _ _).1 (p, q)))
splits_at f g (x ∷ u) v p q = (or_cases (f [] && g (x ∷ (u ++ v))) _).1 (inr (splits_at (λ t. f (x ∷ t)) g u v p q))

-- more joins are allowed by a larger bound
joins-mono : (f : List Period → Bool) (n m : ℕ) (w : List Period) → n ≤ m → joins f n w ≡ true → joins f m w ≡ true
unfolding joins
joins-mono f zero zero w le h = h
joins-mono f zero (suc m) [] le h = refl
joins-mono f zero (suc m) (x ∷ w) le h = cc
joins-mono f (suc n) zero w le h = absurd (not-suc-le-zero le)
joins-mono f (suc n) (suc m) [] le h = refl
joins-mono f (suc n) (suc m) (x ∷ w) le h =
    let s = split (λ u. f (x ∷ u)) (joins f n) w h in
    rw s.whole
    (splits_at (λ u. f (x ∷ u)) (joins f m) s.front s.rest s.held (joins-mono f n m s.rest (le_of_suc-le-suc le) s.held_rest))

joins-nil : (f : List Period → Bool) (n : ℕ) → joins f n [] ≡ true
unfolding joins
joins-nil f zero = refl
joins-nil f (suc n) = refl

joins_more : (f : List Period → Bool) (u v : List Period) → f u ≡ true → joins f (length v) v ≡ true → joins f (length (u ++ v)) (u ++ v) ≡ true
unfolding joins
joins_more f [] v p q = q
joins_more f (x ∷ u) v p q =
    splits_at (λ t. f (x ∷ t)) (joins f (length (u ++ v))) u v p
    (joins-mono f (length v) (length (u ++ v)) v (omega (arith, length-append u v)) q)

-- lists that pass a test which only members pass join to a member of the star
joined : (e : Expression) (f : List Period → Bool) → ((w : List Period) → f w ≡ true → Holds e w)
    → (n : ℕ) (w : List Period) → joins f n w ≡ true → Holds (star e) w
unfolding joins
joined e f sound zero [] h = none
joined e f sound zero (x ∷ w) h = absurd (false≢true h)
joined e f sound (suc n) [] h = none
joined e f sound (suc n) (x ∷ w) h =
    let s = split (λ u. f (x ∷ u)) (joins f n) w h in
    rw s.whole (more (sound (x ∷ s.front) s.held) (joined e f sound n s.rest s.held_rest))

member-sound : (e : Expression) (w : List Period) → member e w ≡ true → Holds e w
unfolding member
member-sound (atom a) [] h = absurd (false≢true h)
member-sound (atom a) (x ∷ []) h = one h
member-sound (atom a) (x ∷ y ∷ w) h = absurd (false≢true h)
member-sound (seq l r) w h =
    let s = split (member l) (member r) w h in
    rw s.whole (join (member-sound l s.front s.held) (member-sound r s.rest s.held_rest))
member-sound (or l r) w h = ⊎_elim (λ t. left (member-sound l w t)) (λ t. right (member-sound r w t)) ((or_cases _ _).0 h)
member-sound (star e) w h = joined e (member e) (member-sound e) (length w) w h

member_complete : {e : Expression} {w : List Period} → Holds e w → member e w ≡ true
unfolding member
member_complete (one h) = h
member_complete (join {l = l} {r = r} {u = u} {v = v} p q) = splits_at (member l) (member r) u v (member_complete p) (member_complete q)
member_complete (left p) = (or_cases _ _).1 (inl (member_complete p))
member_complete (right {l = l} {w = w} p) = (or_cases (member l w) _).1 (inr (member_complete p))
member_complete (none {e = e}) = joins-nil (member e) zero
member_complete (more {e = e} {u = u} {v = v} p q) = joins_more (member e) u v (member_complete p) (member_complete q)

pub member_iff : (e : Expression) (w : List Period) → (member e w ≡ true) ↔ Holds e w
member_iff e w = (member-sound e w, member_complete)

-- every expression holds some list: each atom holds where both parties try its action alone, or where nobody tries anything
tried-alone : ℕ → Period
tried-alone a = record { attempts1 = 2 ^ a; attempts2 = 2 ^ a }

nothing_tried : Period
nothing_tried = record { attempts1 = 0; attempts2 = 0 }

tries_alone : (p : Party) (a : ℕ) → Periods.tries (tried-alone a) p a ≡ true
unfolding Periods.tries tried-alone
tries_alone party1 a = bit_own a
tries_alone party2 a = bit_own a

tries_nothing : (p : Party) (a : ℕ) → Periods.tries nothing_tried p a ≡ false
unfolding Periods.tries nothing_tried
tries_nothing party1 a = bit-zero a
tries_nothing party2 a = bit-zero a

some_period : (a : Atom) → (x : Period) × (holds a x ≡ true)
unfolding holds Periods.succeeds
some_period any = (nothing_tried, refl)
some_period (tries p a) = (tried-alone a, tries_alone p a)
some_period (idle p a) = (nothing_tried, simp (tries_nothing p a))
some_period (succeeds a) = (tried-alone a, simp (tries_alone party1 a, tries_alone party2 a))
some_period (fails a) = (nothing_tried, simp (tries_nothing party1 a))

pub some_list : (e : Expression) → (w : List Period) × Holds e w
some_list (atom a) = ((some_period a).0 ∷ [], one (some_period a).1)
some_list (seq l r) = ((some_list l).0 ++ (some_list r).0, join (some_list l).1 (some_list r).1)
some_list (or l r) = ((some_list l).0, left (some_list l).1)
some_list (star e) = ([], none)

-- lists of a star join
pub star_join : {e : Expression} {u v : List Period} → Holds (star e) u → Holds (star e) v → Holds (star e) (u ++ v)
star_join none q = q
star_join (more {u = u} {v = t} p s) q = rw append_assoc (more p (star_join s q))

pub star_one : {e : Expression} {w : List Period} → Holds e w → Holds (star e) w
star_one {w = w} p = rw append-nil at (more p none)

-- two ways to cut one list: the second cut falls in the front of the first, or in its rest
pub data Cuts (s t u v : List Period) : Type 0 where
  in_front : (m : List Period) → s ≡ u ++ m → Cuts s t u v
  in_rest : (m : List Period) → u ≡ s ++ m → t ≡ m ++ v → Cuts s t u v

pub cuts : (s t u v : List Period) → s ++ t ≡ u ++ v → Cuts s t u v
cuts s t [] v h = in_front s refl
cuts [] t (y ∷ u) v h = in_rest (y ∷ u) refl h
cuts (x ∷ s) t (y ∷ u) v h = longer (cuts s t u v (cc))
  where
    longer : Cuts s t u v → Cuts (x ∷ s) t (y ∷ u) v
    longer (in_front m e) = in_front m (cc)
    longer (in_rest m e f) = in_rest m (cc) f

begins-sound : (e : Expression) (w : List Period) → begins e w ≡ true → (v : List Period) × Holds e (w ++ v)
unfolding begins
begins-sound (atom a) [] h = some_list (atom a)
begins-sound (atom a) (x ∷ []) h = ([], one h)
begins-sound (atom a) (x ∷ y ∷ w) h = absurd (false≢true h)
begins-sound (seq l r) w h =
    ⊎_elim (λ t. first (begins-sound l w t))
    (λ t. let s = split (member l) (begins r) w t in second s (begins-sound r s.rest s.held_rest))
    ((or_cases (begins l w) _).0 h)
  where
    first : ((v : List Period) × Holds l (w ++ v)) → (v : List Period) × Holds (seq l r) (w ++ v)
    first p = (p.0 ++ (some_list r).0, rw (append_assoc w) at (join p.1 (some_list r).1))

    second : (s : Concat (Passes (member l)) (Passes (begins r)) w) → ((v : List Period) × Holds r (s.rest ++ v)) → (v : List Period) × Holds (seq l r) (w ++ v)
    second s p = (p.0, rw (← append_assoc s.front, ← s.whole) at (join (member-sound l s.front s.held) p.1))
begins-sound (or l r) w h =
    ⊎_elim (λ t. let p = begins-sound l w t in (p.0, left p.1))
    (λ t. let p = begins-sound r w t in (p.0, right p.1))
    ((or_cases (begins l w) _).0 h)
begins-sound (star e) w h =
    let s = split (member (star e)) (begins e) w h in
    let p = begins-sound e s.rest s.held_rest in
    (p.0, rw (← append_assoc s.front, ← s.whole) at (star_join (member-sound (star e) s.front s.held) (star_one p.1)))

pub held_seq : {l r : Expression} {w : List Period} → Holds (seq l r) w → Concat (Holds l) (Holds r) w
held_seq (join {u = u} {v = v} p q) = record { front = u; rest = v; whole = refl; held = p; held_rest = q }

pub held_or : {l r : Expression} {w : List Period} → Holds (or l r) w → Holds l w ⊎ Holds r w
held_or (left p) = inl p
held_or (right p) = inr p

begins_atom : {a : Atom} {u : List Period} → Holds (atom a) u → (w v : List Period) → u ≡ w ++ v → begins (atom a) w ≡ true
unfolding begins
begins_atom p [] v h = refl
begins_atom {a} (one {x = y} p) (x ∷ []) v h = let e : y ≡ x = cc in subst (λ (z : Period). holds a z ≡ true) e p
begins_atom (one p) (x ∷ y ∷ w) v h = cc

begins_seq : (l r : Expression) → ((w v : List Period) → Holds l (w ++ v) → begins l w ≡ true)
    → ((w v : List Period) → Holds r (w ++ v) → begins r w ≡ true)
    → (w v : List Period) → Concat (Holds l) (Holds r) (w ++ v) → begins l w || splits (member l) (begins r) w ≡ true
begins_seq l r complete-l complete-r w v h = go (cuts h.front h.rest w v (sym h.whole))
  where
    go : Cuts h.front h.rest w v → begins l w || splits (member l) (begins r) w ≡ true
    go (in_front m k) = (or_cases (begins l w) _).1 (inl (complete-l w m (rw k at h.held)))
    go (in_rest m j k) =
        (or_cases (begins l w) _).1
        (inr (rw j (splits_at (member l) (begins r) h.front m (member_complete h.held) (complete-r m v (rw k at h.held_rest)))))

begins_star : (e : Expression) → ((w v : List Period) → Holds e (w ++ v) → begins e w ≡ true)
    → {u : List Period} → Holds (star e) u → (w v : List Period) → u ≡ w ++ v → splits (member (star e)) (begins e) w ≡ true
begins_star e complete none [] v h =
    splits_at (member (star e)) (begins e) [] [] (member_complete none) (complete [] (some_list e).0 (some_list e).1)
begins_star e complete none (x ∷ w) v h = cc
begins_star e complete (more {u = s} {v = t} p q) w v h = go (cuts s t w v h) (λ m n k. begins_star e complete q m n k)
  where
    go : Cuts s t w v → ((w v : List Period) → t ≡ w ++ v → splits (member (star e)) (begins e) w ≡ true)
        → splits (member (star e)) (begins e) w ≡ true
    go (in_front m k) further = splits_at (member (star e)) (begins e) [] w (member_complete none) (complete w m (rw k at p))
    go (in_rest m j k) further =
        let c = split (member (star e)) (begins e) m (further m v k) in
        let held : Holds (star e) (s ++ c.front) = more p (member-sound (star e) c.front c.held) in
        rw (j, c.whole, ← append_assoc s) (splits_at (member (star e)) (begins e) (s ++ c.front) c.rest (member_complete held) c.held_rest)

begins_complete : (e : Expression) (w v : List Period) → Holds e (w ++ v) → begins e w ≡ true
unfolding begins
begins_complete (atom a) w v h = begins_atom h w v refl
begins_complete (seq l r) w v h = begins_seq l r (begins_complete l) (begins_complete r) w v (held_seq h)
begins_complete (or l r) w v h =
    ⊎_elim (λ p. (or_cases (begins l w) _).1 (inl (begins_complete l w v p))) (λ p. (or_cases (begins l w) _).1 (inr (begins_complete r w v p))) (held_or h)
begins_complete (star e) w v h = begins_star e (begins_complete e) h w v refl

pub begins_iff : (e : Expression) (w : List Period) → (begins e w ≡ true) ↔ ((v : List Period) × Holds e (w ++ v))
begins_iff e w = (begins-sound e w, λ p. begins_complete e w p.0 p.1)

-- the empty list
empty_sound : (e : Expression) → holds_empty e ≡ true → Holds e []
unfolding holds_empty
empty_sound (atom a) h = absurd (false≢true h)
empty_sound (seq l r) h = let b = (and-eq-true_iff (holds_empty l) (holds_empty r)).0 h in join (empty_sound l b.0) (empty_sound r b.1)
empty_sound (or l r) h = ⊎_elim (λ t. left (empty_sound l t)) (λ t. right (empty_sound r t)) ((or_cases (holds_empty l) _).0 h)
empty_sound (star e) h = none

empty_complete : {e : Expression} {w : List Period} → Holds e w → w ≡ [] → holds_empty e ≡ true
unfolding holds_empty
empty_complete (one h) k = cc
empty_complete (join {u = []} {v = v} p q) k = (and-eq-true_iff _ _).1 (empty_complete p refl, empty_complete q k)
empty_complete (join {u = x ∷ u} {v = v} p q) k = cc
empty_complete (left p) k = (or_cases _ _).1 (inl (empty_complete p k))
empty_complete (right {l = l} p) k = (or_cases (holds_empty l) _).1 (inr (empty_complete p k))
empty_complete none k = refl
empty_complete (more p q) k = refl

pub empty_iff : (e : Expression) → (holds_empty e ≡ true) ↔ Holds e []
empty_iff e = (empty_sound e, λ h. empty_complete h refl)
