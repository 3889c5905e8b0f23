-- What the signals of an expression's block tell: a list of its set ends now, and a list that has begun may go on.
-- `seq` and `star` share one law: what starts whenever a list has ended reads the rest (`going_on`).
use mathlib.Core.Bool.{Bool, true, false, ◌&&◌, ◌||◌, and-eq-true_iff, and-false, or_assoc, false≢true}
use mathlib.Core.List.{List, [], ◌∷◌, ◌++◌, append-eq-nil_iff}
use mathlib.Core.Logic.Iff
use mathlib.Core.Logic.{◌↔◌, ◌≢◌, ◌⊎◌, inl, inr, ⊎_elim, ⊎_map}
use mathlib.Core.Option.{Option, none, some}
use mathlib.Core.Path.{◌≡◌, refl, sym, ◌∙◌}
use Rattle.periods.specs.Periods.{Period}
use Rattle.contract.specs.Expressions
use Rattle.contract.specs.Expressions.{Atom, holds, Expression, atom, seq, or, star, Holds, one, left, right, member, begins, holds_empty}
use Rattle.records.proofs.Cases.{or_cases}
use Rattle.contract.proofs.Expressions.{Concat, member_iff, begins_iff, empty_iff, held_or}
use Rattle.image.proofs.Signals.{Signal, at, ◌≐◌, at_or, JoinsOn, where_empty, WiredExpression, wired_atom, wired_seq, wired_or, wired_star}
use Rattle.image.proofs.Threads.{Active, started, kept, not_empty, Exclusive, thread, thread_active}
use Rattle.image.proofs.Languages.{Language, NonEmpty, Before, GoesOn, concat_before, concat_empty, begins_or, concat_begin, atom_single, seq_iff, seq_goes, star_iff, star_goes}

or_iff : (a b : Bool) {A B : Type 0} → ((a ≡ true) ↔ A) → ((b ≡ true) ↔ B) → (a || b ≡ true) ↔ (A ⊎ B)
or_iff a b f g = Iff.trans (or_cases a b) (⊎_map f.0 g.0, ⊎_map f.1 g.1)

and_iff : (a b : Bool) {A B : Type 0} → ((a ≡ true) ↔ A) → ((b ≡ true) ↔ B) → (a && b ≡ true) ↔ (A × B)
and_iff a b f g = Iff.trans (and-eq-true_iff a b) (Iff.and f g)

-- two values that are true together are equal
same : (a b : Bool) → ((a ≡ true) ↔ (b ≡ true)) → a ≡ b
same true b h = sym (h.0 refl)
same false true h = h.1 refl
same false false h = refl

-- ---- what has been read

-- a list of the set has been read up to now
abbrev HasRead : (S K : Signal) → List Period → Language → Type 0
HasRead S K h L = (w : List Period) × (Active S K h w × L w)

read_iff : {S K : Signal} {L M : Language} (h : List Period) → ((w : List Period) → w ≢ [] → L w ↔ M w) → HasRead S K h L ↔ HasRead S K h M
read_iff h f = (λ (w, (a, l)). (w, (a, (f w (not_empty a).1).0 l)), λ (w, (a, m)). (w, (a, (f w (not_empty a).1).1 m)))

-- a list of one of two sets
read_or : {S K : Signal} {L M N : Language} (h : List Period) (a b : Bool) → ((a ≡ true) ↔ HasRead S K h L) → ((b ≡ true) ↔ HasRead S K h M)
    → ((w : List Period) → N w ↔ (L w ⊎ M w)) → (a || b ≡ true) ↔ HasRead S K h N
read_or {S} {K} {L} {M} {N} h a b l m n = Iff.trans (or_iff a b l m) (there, back)
  where
    there : HasRead S K h L ⊎ HasRead S K h M → HasRead S K h N
    there (inl (w, (a, l))) = (w, (a, (n w).1 (inl l)))
    there (inr (w, (a, m))) = (w, (a, (n w).1 (inr m)))

    back : HasRead S K h N → HasRead S K h L ⊎ HasRead S K h M
    back (w, (a, i)) = ⊎_elim (λ l. inl (w, (a, l))) (λ m. inr (w, (a, m))) ((n w).0 i)

-- what `start` and K have read is the rest of what S and K have read, after a list of L
abbrev ReadsRest : Language → (S K start : Signal) → List Period → Type 1
ReadsRest L S K start h = (M : Language) → HasRead start K h M ↔ HasRead S K h (Concat L (NonEmpty M))

rest_step : (L : Language) (S K start : Signal) (p : Period) (h : List Period)
    → ((start p h ≡ true) ↔ (((K p h ≡ true) × HasRead S K h L) ⊎ (L [] × (S p h ≡ true))))
    → ReadsRest L S K start h → ReadsRest L S K start (p ∷ h)
rest_step L S K start p h starts rest M = (λ r. there r.1.0 r.1.1, λ r. back r.1.0 r.1.1)
  where
    there : {w : List Period} → Active start K (p ∷ h) w → M w → HasRead S K (p ∷ h) (Concat L (NonEmpty M))
    there (started s) m =
        ⊎_elim (λ (k, (u, (a, l))). (u ++ (p ∷ []), (kept k a, (concat_before L M u p).1 (inl (l, m)))))
        (λ (l, b). (p ∷ [], (started b, (concat_before L M [] p).1 (inl (l, m)))))
        (starts.0 s)
    there (kept {w = w} k a) m =
        let (v, (b, c)) = (rest (Before p M)).0 (w, (a, m)) in
        (v ++ (p ∷ []), (kept k b, (concat_before L M v p).1 (inr c)))

    back : {w : List Period} → Active S K (p ∷ h) w → Concat L (NonEmpty M) w → HasRead start K (p ∷ h) M
    back (started s) c =
        ⊎_elim (λ (l, m). (p ∷ [], (started (starts.1 (inr (l, s))), m)))
        (λ d. absurd (d.held_rest.0 ((append-eq-nil_iff {p = d.front}).0 (sym d.whole)).1))
        ((concat_before L M [] p).0 c)
    back (kept {w = w} k a) c =
        ⊎_elim (λ (l, m). (p ∷ [], (started (starts.1 (inl (k, (w, (a, l))))), m)))
        (λ d. let (v, (b, m)) = (rest (Before p M)).1 (w, (a, d)) in (v ++ (p ∷ []), (kept k b, m)))
        ((concat_before L M w p).0 c)

-- the law of going on: `ended` must tell that a list of L has been read, which may be shown with the law itself up to the same period
going_on : (L : Language) (S : Signal) {ended S₀ K start : Signal} → JoinsOn ended S₀ K start
    → ((p : Period) (h : List Period) → (S₀ p h ≡ true) ↔ (L [] × (S p h ≡ true)))
    → ((h : List Period) → ReadsRest L S K start h → (at ended h ≡ true) ↔ HasRead S K h L)
    → (h : List Period) → ReadsRest L S K start h
going_on L S j empty tells [] M = (λ r. absurd ((not_empty r.1.0).0 refl), λ r. absurd ((not_empty r.1.0).0 refl))
going_on L S {ended} {S₀} {K} {start} j empty tells (p ∷ h) M =
    let rest = going_on L S j empty tells h in
    rest_step L S K start p h (starts (tells h rest)) rest M
  where
    starts : ((at ended h ≡ true) ↔ HasRead S K h L) → (start p h ≡ true) ↔ (((K p h ≡ true) × HasRead S K h L) ⊎ (L [] × (S p h ≡ true)))
    starts r = rw (j.starts p h) (or_iff _ _ (and_iff _ _ Iff.rfl r) (empty p h))

-- ---- the blocks of expressions

-- with threads that may overlap
record ReadsMany (e : Expression) (S K end live : Signal) : Type 0 where
  ends : (h : List Period) → (at end h ≡ true) ↔ HasRead S K h (Holds e)
  lives : (h : List Period) → (at live h ≡ true) ↔ HasRead S K h (GoesOn (Holds e))

reads_atom : {a : Atom} {S K end live : Signal} → (end ≐ λ p h. S p h && holds a p) → (live ≐ λ p h. false) → ReadsMany (atom a) S K end live
unfolding member
reads_atom {a} {S} {K} {end} {live} e v = record { ends = ends; lives = λ h. (λ t. absurd (false≢true (sym (never h) ∙ t)), longer) }
  where
    longer : {h : List Period} {T : Type 0} → HasRead S K h (GoesOn (Holds (atom a))) → T
    longer (w, (b, (p, (u, o)))) = absurd ((not_empty b).1 (atom_single o w p u refl))

    never : (h : List Period) → at live h ≡ false
    never [] = refl
    never (p ∷ h) = v p h

    ends : (h : List Period) → (at end h ≡ true) ↔ HasRead S K h (Holds (atom a))
    ends [] = (λ t. absurd (false≢true t), λ r. absurd ((not_empty r.1.0).0 refl))
    ends (p ∷ h) =
        rw (e p h) (
          λ t. let b = (and-eq-true_iff (S p h) (holds a p)).0 t in (p ∷ [], (started b.0, one b.1)),
          λ r. back r.1.0 r.1.1,
        )
      where
        back : {w : List Period} → Active S K (p ∷ h) w → Holds (atom a) w → (S p h && holds a p) ≡ true
        back (started s) o = (and-eq-true_iff (S p h) (holds a p)).1 (s, (member_iff (atom a) (p ∷ [])).1 o)
        back (kept {w = w} k b) o = longer (w, (b, (p, ([], o))))

-- a list of L has just ended, or what follows it may go on
lives_after : (L : Language) {r : Expression} {S K start end live : Signal} (h : List Period) (ended : Bool) → ReadsRest L S K start h
    → ((ended ≡ true) ↔ HasRead S K h L) → ReadsMany r start K end live → (at live h || ended ≡ true) ↔ HasRead S K h (Concat L (GoesOn (Holds r)))
lives_after L {r} h ended rest tells part = read_or h _ ended (Iff.trans (part.lives h) (rest (GoesOn (Holds r)))) tells (concat_begin L r)

reads_seq : {l r : Expression} {S K start end_l live_l end_r live_r end live : Signal}
    → ReadsMany l S K end_l live_l → ReadsMany r start K end_r live_r → JoinsOn end_l (where_empty l S) K start
    → (end ≐ λ p h. end_r p h || where_empty r end_l p h) → (live ≐ λ p h. live_l p h || live_r p h || end_l p h) → ReadsMany (seq l r) S K end live
reads_seq {l} {r} {S} {K} {start} {end_l} {live_l} {end_r} {live_r} {end} {live} a b j e v = record {
  ends = λ h. rw (at_or end end_r (where_empty r end_l) e h)
      (read_or h _ _ (Iff.trans (b.ends h) (rest h (Holds r))) (empty h) (λ w. Iff.trans (seq_iff l r w) (concat_empty (Holds l) (Holds r) w)));
  lives = λ h. rw (one_of_three h) (read_or h _ _ (a.lives h) (lives_after (Holds l) h _ (rest h) (a.ends h) b) (seq_goes l r));
}
  where
    rest : (h : List Period) → ReadsRest (Holds l) S K start h
    rest = going_on (Holds l) S j (λ p h. and_iff (holds_empty l) (S p h) (empty_iff l) Iff.rfl) (λ h s. a.ends h)

    at_empty : (h : List Period) → at (where_empty r end_l) h ≡ (holds_empty r && at end_l h)
    at_empty [] = sym (and-false (holds_empty r))
    at_empty (p ∷ h) = refl

    empty : (h : List Period) → (at (where_empty r end_l) h ≡ true) ↔ HasRead S K h (λ w. Holds r [] × Holds l w)
    empty h =
        rw (at_empty h)
        (Iff.trans (and_iff (holds_empty r) (at end_l h) (empty_iff r) (a.ends h))
        (λ (n, (w, (t, s))). (w, (t, (n, s))), λ (w, (t, (n, s))). (n, (w, (t, s)))))

    one_of_three : (h : List Period) → at live h ≡ (at live_l h || (at live_r h || at end_l h))
    one_of_three [] = refl
    one_of_three (p ∷ h) = v p h ∙ or_assoc (live_l p h) (live_r p h) (end_l p h)

reads_or : {l r : Expression} {S K end_l live_l end_r live_r end live : Signal} → ReadsMany l S K end_l live_l → ReadsMany r S K end_r live_r
    → (end ≐ λ p h. end_l p h || end_r p h) → (live ≐ λ p h. live_l p h || live_r p h) → ReadsMany (or l r) S K end live
reads_or {l} {r} {end_l = end_l} {live_l = live_l} {end_r = end_r} {live_r = live_r} {end = end} {live = live} a b e v = record {
  ends = λ h. rw (at_or end end_l end_r e h) (read_or h _ _ (a.ends h) (b.ends h) (λ w. (held_or, ⊎_elim left right)));
  lives = λ h. rw (at_or live live_l live_r v h) (read_or h _ _ (a.lives h) (b.lives h) goes);
}
  where
    goes : (w : List Period) → GoesOn (Holds (or l r)) w ↔ (GoesOn (Holds l) w ⊎ GoesOn (Holds r) w)
    goes w = (
      λ (p, (u, h)). ⊎_elim (λ t. inl (p, (u, t))) (λ t. inr (p, (u, t))) (held_or h),
      ⊎_elim (λ (p, (u, h)). (p, (u, left h))) (λ (p, (u, h)). (p, (u, right h))),
    )

-- here the list that has ended is one of the whole star
reads_star : {e : Expression} {S K start end live_e live : Signal} → ReadsMany e start K end live_e → JoinsOn end S K start
    → (live ≐ λ p h. live_e p h || end p h) → ReadsMany (star e) S K end live
reads_star {e} {S} {K} {start} {end} {live_e} {live} a j v = record {
  ends = λ h. tells h (rest h);
  lives = λ h. rw (at_or live live_e end v h)
      (Iff.trans (lives_after (Holds (star e)) h _ (rest h) (tells h (rest h)) a) (read_iff h (λ w n. Iff.symm (star_goes e w))));
}
  where
    tells : (h : List Period) → ReadsRest (Holds (star e)) S K start h → (at end h ≡ true) ↔ HasRead S K h (Holds (star e))
    tells h rest = Iff.trans (a.ends h) (Iff.trans (rest (Holds e)) (read_iff h (λ w n. Iff.symm (star_iff e w n))))

    rest : (h : List Period) → ReadsRest (Holds (star e)) S K start h
    rest = going_on (Holds (star e)) S j (λ p h. (λ s. (Expressions.none, s), λ b. b.1)) tells

reads_many : {e : Expression} {S K end live : Signal} → WiredExpression e S K end live → ReadsMany e S K end live
reads_many (wired_atom e v) = reads_atom e v
reads_many (wired_seq l r j e v) = reads_seq (reads_many l) (reads_many r) j e v
reads_many (wired_or l r e v) = reads_or (reads_many l) (reads_many r) e v
reads_many (wired_star r j v) = reads_star (reads_many r) j v

-- what has been read is in the set; some list that begins with it is
abbrev pub held_by : Expression → Option (List Period) → Bool
held_by e none = false
held_by e (some w) = member e w

abbrev pub begins_by : Expression → Option (List Period) → Bool
begins_by e none = false
begins_by e (some w) = begins e w

-- with one thread at a time
pub record ReadsAlone (e : Expression) (S K end live : Signal) : Type 0 where
  pub ends : (h : List Period) → at end h ≡ held_by e (thread S K h)
  pub goes_on : (h : List Period) → (at end h || at live h) ≡ begins_by e (thread S K h)

-- the test f, which the lists of L pass, on the one thread
read_alone : {S K : Signal} (L : Language) (h : List Period) (a : Bool) → Exclusive S K → ((a ≡ true) ↔ HasRead S K h L)
    → (f : Option (List Period) → Bool) → f none ≡ false → ((w : List Period) → (f (some w) ≡ true) ↔ L w) → a ≡ f (thread S K h)
read_alone {S} {K} L h a x r f n s = same a (f (thread S K h)) (Iff.trans r (there, back (thread S K h) refl))
  where
    there : HasRead S K h L → f (thread S K h) ≡ true
    there (w, (t, l)) = rw ((thread_active S K x h w).0 t) ((s w).1 l)

    back : (t : Option (List Period)) → thread S K h ≡ t → f t ≡ true → HasRead S K h L
    back none e i = absurd (false≢true (sym n ∙ i))
    back (some w) e i = (w, ((thread_active S K x h w).1 e, (s w).0 i))

pub reads-alone : {e : Expression} {S K end live : Signal} → Exclusive S K → WiredExpression e S K end live → ReadsAlone e S K end live
reads-alone {e} x w = record {
  ends = λ h. read_alone (Holds e) h _ x ((reads_many w).ends h) (held_by e) refl (member_iff e);
  goes_on = λ h. read_alone (λ u. (v : List Period) × Holds e (u ++ v)) h _ x
      (read_or h _ _ ((reads_many w).ends h) ((reads_many w).lives h) (begins_or (Holds e))) (begins_by e) refl (begins_iff e);
}
