-- Sets of lists of periods, the sets of expressions among them: joining a list of one set and a list of another, how joining looks with one
-- period more, and going on from a list to a longer one.
use mathlib.Core.List.{List, [], ◌∷◌, ◌++◌, append_assoc, append-nil, append-eq-nil_iff, cons-ne-nil}
use mathlib.Core.Logic.{◌↔◌, ◌≢◌, ◌⊎◌, inl, inr, ⊎_elim}
use mathlib.Core.Path.{◌≡◌, refl, sym, ◌∙◌, subst}
use Rattle.periods.specs.Periods.{Period}
use Rattle.contract.specs.Expressions
use Rattle.contract.specs.Expressions.{Atom, Expression, atom, seq, or, star, Holds, one, join, left, more, member, begins}
use Rattle.contract.proofs.Expressions.{Concat, held_seq, Passes, split, member_iff, begins_iff, some_list, star_join, star_one, Cuts, in_front, in_rest, cuts}

abbrev pub Language : Type 1
Language = List Period → Type 0

abbrev pub NonEmpty : Language → Language
NonEmpty L w = (w ≢ []) × L w

-- the lists that one more period, p, brings into the set
abbrev pub Before : Period → Language → Language
Before p L w = L (w ++ (p ∷ []))

-- the lists from which a list of the set goes on
abbrev pub GoesOn : Language → Language
GoesOn L w = (p : Period) × ((u : List Period) × L (w ++ (p ∷ u)))

-- a list that ends with p, cut somewhere before p
cut_before : (w front rest : List Period) (p : Period) → w ++ (p ∷ []) ≡ front ++ rest → rest ≢ []
    → (m : List Period) × ((w ≡ front ++ m) × (rest ≡ m ++ (p ∷ [])))
cut_before w [] rest p h n = (w, (refl, sym h))
cut_before [] (x ∷ front) rest p h n = let e : front ++ rest ≡ [] = cc in absurd (n ((append-eq-nil_iff {p = front}).0 e).1)
cut_before (y ∷ w) (x ∷ front) rest p h n = let (m, (e, f)) = cut_before w front rest p (cc) n in (m, (cc, f))

-- one more period, p, is the first of the rest or one more of the rest
pub concat_before : (L M : Language) (w : List Period) (p : Period)
    → Before p (Concat L (NonEmpty M)) w ↔ ((L w × M (p ∷ [])) ⊎ Concat L (NonEmpty (Before p M)) w)
concat_before L M w p = (λ c. apart c (cut_before w c.front c.rest p c.whole c.held_rest.0), ⊎_elim first further)
  where
    apart : (c : Concat L (NonEmpty M) (w ++ (p ∷ []))) → ((m : List Period) × ((w ≡ c.front ++ m) × (c.rest ≡ m ++ (p ∷ []))))
        → (L w × M (p ∷ [])) ⊎ Concat L (NonEmpty (Before p M)) w
    apart c ([], (e, f)) = inl (rw (e, append-nil) c.held, subst M f c.held_rest.1)
    apart c (x ∷ m, (e, f)) =
        inr (record { front = c.front; rest = x ∷ m; whole = e; held = c.held; held_rest = (cons-ne-nil x m, subst M f c.held_rest.1) })

    first : L w × M (p ∷ []) → Concat L (NonEmpty M) (w ++ (p ∷ []))
    first b = record { front = w; rest = p ∷ []; whole = refl; held = b.0; held_rest = (cons-ne-nil p [], b.1) }

    further : Concat L (NonEmpty (Before p M)) w → Concat L (NonEmpty M) (w ++ (p ∷ []))
    further c = record {
      front = c.front;
      rest = c.rest ++ (p ∷ []);
      whole = rw (← append_assoc, c.whole);
      held = c.held;
      held_rest = (λ z. c.held_rest.0 ((append-eq-nil_iff {p = c.rest}).0 z).0, c.held_rest.1);
    }

-- the rest is not empty, or it is
pub concat_empty : (L M : Language) (w : List Period) → Concat L M w ↔ (Concat L (NonEmpty M) w ⊎ (M [] × L w))
concat_empty L M w = (λ c. apart c.rest c.front c.whole c.held c.held_rest, ⊎_elim some_rest no_rest)
  where
    apart : (rest front : List Period) → w ≡ front ++ rest → L front → M rest → Concat L (NonEmpty M) w ⊎ (M [] × L w)
    apart [] front e l m = inr (m, rw (e, append-nil) l)
    apart (x ∷ rest) front e l m = inl (record { front = front; rest = x ∷ rest; whole = e; held = l; held_rest = (cons-ne-nil x rest, m) })

    some_rest : Concat L (NonEmpty M) w → Concat L M w
    some_rest c = record { front = c.front; rest = c.rest; whole = c.whole; held = c.held; held_rest = c.held_rest.1 }

    no_rest : M [] × L w → Concat L M w
    no_rest b = record { front = w; rest = []; whole = sym (append-nil w); held = b.1; held_rest = b.0 }

-- what goes on in the rest goes on as a whole
concat_goes : {L M N : Language} {w : List Period} → ((v : List Period) → Concat L M v → N v) → Concat L (GoesOn M) w → GoesOn N w
concat_goes f c =
    let (p, (u, m)) = c.held_rest in
    (p, (u, f _ (record { front = c.front; rest = c.rest ++ (p ∷ u); whole = rw (← append_assoc, c.whole); held = c.held; held_rest = m })))

-- what begins a list of the set is in the set or goes on
pub begins_or : (L : Language) (w : List Period) → ((v : List Period) × L (w ++ v)) ↔ (L w ⊎ GoesOn L w)
begins_or L w = (apart, ⊎_elim (λ l. ([], rw append-nil l)) (λ (p, (u, l)). (p ∷ u, l)))
  where
    apart : ((v : List Period) × L (w ++ v)) → L w ⊎ GoesOn L w
    apart ([], l) = inl (rw append-nil at l)
    apart (p ∷ u, l) = inr (p, (u, l))

-- ---- the sets of expressions

-- every expression holds some list that is not empty
may_begin : (e : Expression) → GoesOn (Holds e) []
may_begin (atom a) = of_atom (some_list (atom a)).1
  where
    of_atom : {w : List Period} → Holds (atom a) w → GoesOn (Holds (atom a)) []
    of_atom (one {x = x} h) = (x, ([], one h))
may_begin (seq l r) = let (p, (u, h)) = may_begin l in (p, (u ++ (some_list r).0, join h (some_list r).1))
may_begin (or l r) = let (p, (u, h)) = may_begin l in (p, (u, left h))
may_begin (star e) = let (p, (u, h)) = may_begin e in (p, (u, star_one h))

-- so after a list of L a list of r may always begin
pub concat_begin : (L : Language) (r : Expression) (w : List Period)
    → Concat L (GoesOn (Holds r)) w ↔ (Concat L (NonEmpty (GoesOn (Holds r))) w ⊎ L w)
concat_begin L r w =
    let e = concat_empty L (GoesOn (Holds r)) w in
    (λ c. ⊎_elim inl (λ b. inr b.1) (e.0 c), λ s. e.1 (⊎_elim inl (λ l. inr (may_begin r, l)) s))

-- a list of an atom has one period
pub atom_single : {a : Atom} {x : List Period} → Holds (atom a) x → (w : List Period) (p : Period) (u : List Period) → x ≡ w ++ (p ∷ u) → w ≡ []
atom_single h [] p u e = refl
atom_single (one h) (y ∷ w) p u e = let z : w ++ (p ∷ u) ≡ [] = cc in absurd (cons-ne-nil p u ((append-eq-nil_iff {p = w}).0 z).1)

pub seq_iff : (l r : Expression) (w : List Period) → Holds (seq l r) w ↔ Concat (Holds l) (Holds r) w
seq_iff l r w = (held_seq, λ c. rw c.whole (join c.held c.held_rest))

pub seq_goes : (l r : Expression) (w : List Period)
    → GoesOn (Holds (seq l r)) w ↔ (GoesOn (Holds l) w ⊎ Concat (Holds l) (GoesOn (Holds r)) w)
seq_goes l r w = (λ (p, (u, h)). apart p u ((seq_iff l r _).0 h), ⊎_elim in_left (concat_goes (λ v. (seq_iff l r v).1)))
  where
    apart : (p : Period) (u : List Period) → Concat (Holds l) (Holds r) (w ++ (p ∷ u)) → GoesOn (Holds l) w ⊎ Concat (Holds l) (GoesOn (Holds r)) w
    apart p u c = go (cuts c.front c.rest w (p ∷ u) (sym c.whole))
      where
        go : Cuts c.front c.rest w (p ∷ u) → GoesOn (Holds l) w ⊎ Concat (Holds l) (GoesOn (Holds r)) w
        go (in_front [] e) = inr ((concat_begin (Holds l) r w).1 (inr (rw (e, append-nil) at c.held)))
        go (in_front (q ∷ m) e) = inl (q, (m, rw e at c.held))
        go (in_rest m e f) = inr (record { front = c.front; rest = m; whole = e; held = c.held; held_rest = (p, (u, rw f at c.held_rest)) })

    in_left : GoesOn (Holds l) w → GoesOn (Holds (seq l r)) w
    in_left (p, (u, h)) = (p, (u ++ (some_list r).0, rw (append_assoc w) at (join h (some_list r).1)))

star_more : {e : Expression} {w : List Period} → Concat (Holds (star e)) (Holds e) w → Holds (star e) w
star_more c = rw c.whole (star_join c.held (star_one c.held_rest))

star_last : {e : Expression} {w : List Period} → Holds (star e) w → w ≢ [] → Concat (Holds (star e)) (NonEmpty (Holds e)) w
star_last Expressions.none n = absurd (n refl)
star_last (more {u = u} {v = []} p q) n =
    record { front = []; rest = u; whole = append-nil u; held = Expressions.none; held_rest = (λ z. n (append-nil u ∙ z), p) }
star_last (more {u = u} {v = x ∷ v} p q) n =
    let c = star_last q (cons-ne-nil x v) in
    record { front = u ++ c.front; rest = c.rest; whole = rw (append_assoc, ← c.whole); held = more p c.held; held_rest = c.held_rest }

pub star_iff : (e : Expression) (w : List Period) → w ≢ [] → Holds (star e) w ↔ Concat (Holds (star e)) (NonEmpty (Holds e)) w
star_iff e w n = (λ h. star_last h n, λ c. star_more ((concat_empty (Holds (star e)) (Holds e) w).1 (inl c)))

pub star_goes : (e : Expression) (w : List Period) → GoesOn (Holds (star e)) w ↔ Concat (Holds (star e)) (GoesOn (Holds e)) w
unfolding begins
star_goes e w = (λ (p, (u, h)). apart (split (member (star e)) (begins e) w ((begins_iff (star e) w).1 (p ∷ u, h))), concat_goes (λ v. star_more))
  where
    apart : Concat (Passes (member (star e))) (Passes (begins e)) w → Concat (Holds (star e)) (GoesOn (Holds e)) w
    apart s = ⊎_elim ended goes ((begins_or (Holds e) s.rest).0 ((begins_iff e s.rest).0 s.held_rest))
      where
        held : Holds (star e) s.front
        held = (member_iff (star e) s.front).0 s.held

        ended : Holds e s.rest → Concat (Holds (star e)) (GoesOn (Holds e)) w
        ended h = (concat_begin (Holds (star e)) e w).1 (inr (rw (← s.whole) at (star_join held (star_one h))))

        goes : GoesOn (Holds e) s.rest → Concat (Holds (star e)) (GoesOn (Holds e)) w
        goes g = record { front = s.front; rest = s.rest; whole = s.whole; held = held; held_rest = g }
