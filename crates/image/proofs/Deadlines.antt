-- The block of a deadline behaves, by induction on the window: as a duty that is repaired by the deadline of the periods left. All periods of
-- a window go on by the same row, where nested repairs would each have their own; the two agree, since of a window's periods at most one is now.
use Prim.Native.Nat.{ℕ, zero, suc, ◌-◌}
use native.Mathlib.Omega.{arith}
use mathlib.Core.Bool.{Bool, true, false, not, ◌&&◌, ◌||◌, cond, and-true, and-false, and_comm, or-true, and-eq-true_iff, false≢true}
use mathlib.Core.List.{List, [], ◌∷◌}
use mathlib.Core.Option.{Option, none, some}
use mathlib.Core.Path.{◌≡◌, refl, sym, ◌∙◌}
use Rattle.periods.specs.declared.Party.{Party}
use Rattle.periods.specs.declared.Party.TheVariants.{One as party1, Two as party2}
use Rattle.periods.specs.Periods.{other, Period, tries, succeeds}
use Rattle.contract.specs.Meaning.{only, duty, Clause, literal, deadline, meaning, EmptyFree}
use Rattle.contract.proofs.Windows.{by_party, deadline_none, deadline_one, deadline_more}
use Rattle.image.proofs.Signals.{Signal, at, ◌≐◌, at_or, Report, is_met, is_broken, literal_report, Says, exactly, HandsOver, Window, at_last, more, deadline_report}
use Rattle.image.proofs.Threads.{Exclusive, exclusive_hands_over, thread}
use Rattle.image.proofs.Reports.{someone_blamed, unbroken, said_by}
use Rattle.image.proofs.Behaviour.{Behaves}
use Rattle.image.proofs.Literals.{behaves_literal}
use Rattle.image.proofs.Handing.{behaves_repair}

-- ---- clauses that mean the same

said_same : (c d : Clause) → ((w : List Period) → meaning d w ≡ meaning c w) → (t : Option (List Period)) → said_by d t ≡ said_by c t
said_same c d e none = refl
said_same c d e (some w) = rw (e w)

behaves_same : {c d : Clause} {S K sat one two : Signal} → ((w : List Period) → meaning d w ≡ meaning c w)
    → Behaves c S K sat one two → Behaves d S K sat one two
behaves_same {c} {d} {S} {K} e b = record { says = λ h. rw (said_same c d e (thread S K h)) (b.says h) }

-- ---- the reports of a duty and of a deadline

-- a duty that waits is violated where it is missed
missed_broken : (q : Party) (w t u : Bool)
    → (w && not (t && u)) ≡ (is_broken party1 (literal_report (duty (only q)) w t u) || is_broken party2 (literal_report (duty (only q)) w t u))
missed_broken q false t u = refl
missed_broken q true true true = refl
missed_broken q true true false = sym (someone_blamed (only (other q)))
missed_broken q true false u = sym (someone_blamed (only q))

-- a deadline is satisfied where it waits and both try, and so is a duty
met_where : (q : Party) (w z t u : Bool) → is_met (literal_report (duty (only q)) (cond (t && u) w z) t u) ≡ (w && (t && u))
met_where q true z true true = refl
met_where q false z true true = refl
met_where q w true true false = sym (and-false w)
met_where q w false true false = sym (and-false w)
met_where q w true false u = sym (and-false w)
met_where q w false false u = sym (and-false w)

met_first : (q : Party) (w t u : Bool) → is_met (literal_report (duty (only q)) w t u) ≡ (w && (t && u))
met_first q true true true = refl
met_first q true true false = refl
met_first q true false u = refl
met_first q false t u = refl

swap : (k m s : Bool) → (k && m && s) ≡ (k && s && m)
swap false m s = refl
swap true m s = and_comm m s

in_either : (w k m l s : Bool) → (w || k && (m || l)) && s ≡ (w && s || (k && m || k && l) && s)
in_either true k m l true = refl
in_either true true m l false = sym (and-false (m || l))
in_either true false m l false = refl
in_either false true m l s = refl
in_either false false m l s = refl

-- blame goes by the window's last period alone
broken_last : (r q : Party) (x y z t u : Bool)
    → is_broken r (literal_report (duty (only q)) (cond (t && u) x z) t u) ≡ is_broken r (literal_report (duty (only q)) (cond (t && u) y z) t u)
broken_last r q x y z true true = unbroken r x ∙ sym (unbroken r y)
broken_last r q x y z true false = refl
broken_last r q x y z false u = refl

-- ---- of a window's periods at most one is now

-- `older`: missed in an earlier period of the window. W: the duty waits in this period of it. G: the thread of this period on goes on.
record Apart (K older W G : Signal) : Type 0 where
  goes : G ≐ λ p h. K p h && not (at older h)
  not_both : (p : Period) (h : List Period) → older p h ≡ true → W p h ≡ false
  older_on : (p : Period) (h : List Period) → older p h ≡ true → K p h ≡ true → at older h ≡ true
  waits_on : (p : Period) (h : List Period) → W p h ≡ true → K p h ≡ true → at older h ≡ true

abbrev no_signal : Signal
no_signal p h = false

at_none : (h : List Period) → at no_signal h ≡ false
at_none [] = refl
at_none (p ∷ h) = refl

apart_first : {S K : Signal} → Exclusive S K → Apart K no_signal S K
apart_first {S} {K} x = record {
  goes = λ p h. rw (at_none h) (sym (and-true (K p h)));
  not_both = λ p h e. absurd (false≢true e);
  older_on = λ p h e f. absurd (false≢true e);
  waits_on = λ p h e f. absurd (false≢true (rw (e, f) at (sym (x.never_both p h))));
}

-- Handing over from one period to the next: where the duty waits next, which thread goes on, and what is older by then.
module _ {K older W G missed : Signal} (x : Apart K older W G) (waiting : (p : Period) (h : List Period) → missed p h ≡ true → W p h ≡ true) where
  not_older : (h : List Period) → at missed h ≡ true → at older h ≡ false
  not_older [] e = refl
  not_older (p ∷ h) e = each (older p h) refl
    where
      each : (o : Bool) → older p h ≡ o → o ≡ false
      each false i = refl
      each true i = absurd (false≢true (sym (x.not_both p h i) ∙ waiting p h e))

  start_is : {start go : Signal} → HandsOver missed G start go → start ≐ λ p h. K p h && at missed h
  start_is w p h = w.starts p h ∙ rw (x.goes p h) (each (at missed h) refl)
    where
      each : (m : Bool) → at missed h ≡ m → (K p h && not (at older h) && m) ≡ (K p h && m)
      each true e = rw (not_older h e) (and-true (K p h && true))
      each false e = rw (and-false (K p h), and-false)

  abbrev newly_older : Signal
  newly_older p h = older p h || missed p h

  at_older : (h : List Period) → at newly_older h ≡ (at older h || at missed h)
  at_older = at_or newly_older older missed (λ p h. refl)

  -- nothing that was older goes on into a period in which the duty waits next
  clash : (p : Period) (h : List Period) → newly_older p h ≡ true → K p h ≡ true → at older h ≡ true
  clash p h e k = each (older p h) refl (missed p h) refl e
    where
      each : (o : Bool) → older p h ≡ o → (m : Bool) → missed p h ≡ m → (o || m) ≡ true → at older h ≡ true
      each true i m j e = x.older_on p h i k
      each false i true j e = x.waits_on p h (waiting p h j) k
      each false i false j e = absurd (false≢true e)

  apart_next : {start go : Signal} → HandsOver missed G start go → Apart K newly_older start go
  apart_next w = record {
    goes = λ p h. w.goes p h ∙ rw (x.goes p h, at_older h) (neither (K p h) (at older h) (at missed h));
    not_both = λ p h e. start_is w p h ∙ never p h (K p h) refl (at missed h) refl e;
    older_on = λ p h e k. rw (at_older h, clash p h e k);
    waits_on = λ p h e k. rw (at_older h, ((and-eq-true_iff (K p h) (at missed h)).0 (sym (start_is w p h) ∙ e)).1, or-true);
  }
    where
      neither : (k o m : Bool) → (k && not o && not m) ≡ (k && not (o || m))
      neither false o m = refl
      neither true true m = refl
      neither true false m = refl

      never : (p : Period) (h : List Period) (k : Bool) → K p h ≡ k → (m : Bool) → at missed h ≡ m → newly_older p h ≡ true → (k && m) ≡ false
      never p h false i m j e = refl
      never p h true i false j e = refl
      never p h true i true j e = absurd (false≢true (sym (not_older h j) ∙ clash p h e i))

-- ---- the window

module _ (q : Party) (a : ℕ) where
  abbrev DeadlineSays : (waits last sat one two : Signal) → Type 0
  DeadlineSays waits last sat one two =
      (p : Period) (h : List Period) → Says (sat p h) (one p h) (two p h) (deadline_report q a (waits p h) (last p h) p)

  -- the duty is missed where it waits and not both try
  abbrev Misses : (W missed : Signal) → Type 0
  Misses W missed = missed ≐ λ p h. W p h && not (succeeds p a)

  -- one period is left: a plain duty
  behaves_last : (K : Signal) {W G missed earlier last sat one two : Signal} → Misses W missed → (earlier ≐ λ p h. false) → (last ≐ missed)
      → DeadlineSays (λ p h. W p h || K p h && earlier p h) last sat one two → Behaves (literal (duty (only q)) a) W G sat one two
  behaves_last K {W} m e l s = behaves_literal λ p h. rw (e p h, l p h, m p h, one_period (W p h) (K p h) (succeeds p a)) at (s p h)
    where
      one_period : (w k t : Bool) → cond t (w || k && false) (w && not t) ≡ w
      one_period true k true = refl
      one_period true k false = refl
      one_period false true true = refl
      one_period false false true = refl
      one_period false k false = refl

  behaves_window : (n : ℕ) {K older W G missed earlier last sat one two : Signal} → Apart K older W G → Exclusive W G → Misses W missed
      → Window a K n missed earlier last → DeadlineSays (λ p h. W p h || K p h && earlier p h) last sat one two
      → Behaves (deadline q a (suc n)) W G sat one two
  unfolding EmptyFree
  behaves_window zero {K} x y m (at_last e l) s = behaves_same (deadline_one q a) (behaves_last K m e l s)
  behaves_window (suc n) {K} {W = W} {G} {missed} {earlier} {last} {sat} {one} {two} x y m (more {next = next} {later = later} i w e) s =
      behaves_same (deadline_more q a n)
      (behaves_repair (tt, tt) y (behaves_literal {S = W} {K = G} λ p h. exactly (literal_report (duty (only q)) (W p h) (tries p q a) (tries p (other q) a)))
      (λ p h. m p h ∙ rw (by_party q p a) (missed_broken q (W p h) (tries p q a) (tries p (other q) a)))
      hands
      (behaves_window n (apart_next x waiting hands) (exclusive_hands_over hands) next_missed w rest_says)
      sat_or)
    where
      waiting : (p : Period) (h : List Period) → missed p h ≡ true → W p h ≡ true
      waiting p h i = ((and-eq-true_iff (W p h) (not (succeeds p a))).0 (sym (m p h) ∙ i)).0

      start : Signal
      start p h = G p h && at missed h

      go : Signal
      go p h = G p h && not (at missed h)

      hands : HandsOver missed G start go
      hands = record { starts = λ p h. refl; goes = λ p h. refl }

      next_missed : Misses start next
      next_missed p h = i p h ∙ sym (rw (start_is x waiting hands p h) (swap (K p h) (at missed h) (not (succeeds p a))))

      rest : Period → List Period → Report
      rest p h = deadline_report q a (start p h || K p h && later p h) (last p h) p

      blamed : (r : Party) (p : Period) (h : List Period)
          → is_broken r (deadline_report q a (W p h || K p h && earlier p h) (last p h) p) ≡ is_broken r (rest p h)
      blamed r p h = rw (by_party q p a) (broken_last r q _ _ (last p h) (tries p q a) (tries p (other q) a))

      rest_says : DeadlineSays (λ p h. start p h || K p h && later p h) last (λ p h. is_met (rest p h)) one two
      rest_says p h = record { sat_is = refl; one_is = (s p h).one_is ∙ blamed party1 p h; two_is = (s p h).two_is ∙ blamed party2 p h }

      sat_or : sat ≐ λ p h. is_met (literal_report (duty (only q)) (W p h) (tries p q a) (tries p (other q) a)) || is_met (rest p h)
      sat_or p h =
          let t = tries p q a in
          let u = tries p (other q) a in
          (s p h).sat_is
          ∙ rw (
            e p h,
            start_is x waiting hands p h,
            by_party q p a,
            met_first q (W p h) t u,
            met_where q (W p h || K p h && (at missed h || later p h)) (last p h) t u,
            met_where q (K p h && at missed h || K p h && later p h) (last p h) t u,
          ) (in_either (W p h) (K p h) (at missed h) (later p h) (t && u))

  pub behaves_deadline : (d : ℕ) {S K missed earlier last sat one two : Signal} → Exclusive S K → Misses S missed
      → Window a K (d - 1) missed earlier last → DeadlineSays (λ p h. S p h || K p h && earlier p h) last sat one two
      → Behaves (deadline q a d) S K sat one two
  behaves_deadline zero {K = K} x m (at_last e l) s = behaves_same (deadline_none q a) (behaves_last K m e l s)
  behaves_deadline (suc n) x m w s =
      let e : suc n - 1 ≡ n = omega arith in
      behaves_window n (apart_first x) x m (rw e at w) s
