-- The block of `repeat` behaves. A repeated clause reads run after run: each run ends where the clause is satisfied on it, and the next begins in
-- the period after.
use Prim.Native.Nat.{ℕ}
use native.Mathlib.Omega.{arith}
use mathlib.Core.Bool.{Bool, true, false, not, ◌&&◌, ◌||◌, false≢true}
use mathlib.Core.List.{List, [], ◌∷◌, ◌++◌, append_assoc}
use mathlib.Core.Logic.{◌⊎◌, inl, inr}
use mathlib.Core.Option.{Option, none, some, some-ne-none, some-injective}
use mathlib.Core.Path.{◌≡◌, refl, sym, ap, ◌∙◌}
use borrow.Author.Tests.{eqb-true, eq-eqb}
use lib.ListN.{length, drop, length-append}
use lib.Seq.{drop-length, drop-append_seam}
use Rattle.periods.specs.Periods.{Period}
use Rattle.contract.specs.Meaning.{Clause, repeat, Decision, undecided, satisfied, violated, after, then_meaning, repeat_meaning, meaning, EmptyFree}
use Rattle.contract.proofs.Verdicts.{stands}
use Rattle.contract.proofs.Repeats.{repeat_is_then}
use Rattle.image.proofs.Signals.{Signal, at, ◌≐◌, is_met, HandsOver}
use Rattle.image.proofs.Once.{length-snoc, is_at, first_period_lem}
use Rattle.image.proofs.Threads.{Exclusive, read_next, thread}
use Rattle.image.proofs.Reports.{satisfied_at, now, now_by, said_by, now_later}
use Rattle.image.proofs.Decisions.{once_satisfied, met_happens}
use Rattle.image.proofs.Behaviour.{Behaves}
use Rattle.image.proofs.Handing.{says_by, violation, says_violation}

-- the clause is not satisfied before the last period
abbrev Open : Clause → List Period → Type 0
Open c u = (satisfied_at (meaning c u) ≡ none) ⊎ (satisfied_at (meaning c u) ≡ some (length u))

-- u is the last run of w: w joins lists on each of which the clause is satisfied in the last period, and u
data Runs (c : Clause) : (w u : List Period) → Type 0 where
  last : {u : List Period} → Open c u → Runs c u u
  next : (v : List Period) {w u : List Period} → meaning c v ≡ satisfied (length v) → Runs c w u → Runs c (v ++ w) u

last_open : {c : Clause} {w u : List Period} → Runs c w u → Open c u
last_open (last o) = o
last_open (next v s r) = last_open r

-- the whole goes on as its last run does
run_on : {c : Clause} {w u y : List Period} → Runs c w u → (x : List Period) → Runs c (u ++ x) y → Runs c (w ++ x) y
run_on (last o) x on = on
run_on (next v {w = w} s r) x on = rw (append_assoc v w x) (next v s (run_on r x on))

ends_satisfied : (n : ℕ) (d : Decision) → is_at (satisfied_at d) n ≡ true → d ≡ satisfied n
ends_satisfied n undecided e = absurd (false≢true e)
ends_satisfied n (satisfied k) e = ap satisfied (eqb-true k n e)
ends_satisfied n (violated k b) e = absurd (false≢true e)

-- the same of what two threads have read
data Running (c : Clause) : (t run : Option (List Period)) → Type 0 where
  idle : Running c none none
  runs : {w u : List Period} → Runs c w u → Running c (some w) (some u)

module _ (c : Clause) (g : EmptyFree c) where
  repeat_nothing : meaning (repeat c) [] ≡ undecided
  unfolding meaning repeat_meaning
  repeat_nothing = refl

  -- the repeated clause says of a list what the clause says of its last run, but not that it is satisfied
  said_of_run : {w u : List Period} → Runs c w u → said_by (repeat c) (some w) ≡ now (length u) (violation (meaning c u))
  said_of_run (last {u = u} o) = rw (repeat_is_then c g u) (go (meaning c u) o)
    where
      go : (d : Decision) → (satisfied_at d ≡ none) ⊎ (satisfied_at d ≡ some (length u))
          → now (length u) (then_meaning d (after (meaning (repeat c)) u)) ≡ now (length u) (violation d)
      go undecided o = refl
      go (satisfied k) (inl e) = absurd (some-ne-none k e)
      go (satisfied k) (inr e) =
          let k_is : k ≡ length u = some-injective k (length u) e in
          let rest : drop k u ≡ [] = rw k_is (drop-length u) in
          rw (rest, repeat_nothing)
      go (violated k b) o = refl
  said_of_run (next v {w = w} {u = u} s r) =
      let stays : meaning c (v ++ w) ≡ satisfied (length v) = stands c g v w (λ e. let z : ◌≡◌ {A = ℕ} 0 1 = cc in omega arith) ∙ s in
      rw (repeat_is_then c g (v ++ w), stays, drop-append_seam v w, length-append v w, now_later (length v) (length w) (meaning (repeat c) w))
      (said_of_run r)

  module _ (p : Period) where
    first_open : Open c (p ∷ [])
    first_open = first_period_lem (once_satisfied c g) p

    still_open : (u : List Period) → Open c u → is_met (said_by c (some u)) ≡ false → Open c (u ++ (p ∷ []))
    still_open u (inl i) e = rw (length-snoc u p) ((once_satisfied c g).only_now u p i)
    still_open u (inr i) e =
        let ended : is_at (satisfied_at (meaning c u)) (length u) ≡ true = rw (i, eq-eqb (length u) (length u) refl) in
        absurd (false≢true (sym e ∙ met_happens c (some u) ∙ ended))

    step : (s k a : Bool) → (s && k) ≡ false → {t run : Option (List Period)} → Running c t run → is_met (said_by c run) ≡ a
        → Running c (read_next s k p t) (read_next (s || (k && a)) (k && not a) p run)
    step true true a x r e = absurd (false≢true (sym x))
    step true false a x r e = runs (last first_open)
    step false false a x r e = idle
    step false true true x idle e = absurd (false≢true e)
    step false true true x (runs {u = u} r) e =
        let ended : meaning c u ≡ satisfied (length u) = ends_satisfied (length u) (meaning c u) (sym (met_happens c (some u)) ∙ e) in
        runs (run_on r (p ∷ []) (next u ended (last first_open)))
    step false true false x idle e = idle
    step false true false x (runs {u = u} r) e = runs (run_on r (p ∷ []) (last (still_open u (last_open r) e)))

  said_running : {t run : Option (List Period)} → Running c t run → said_by (repeat c) t ≡ now_by (λ w. violation (meaning c w)) run
  said_running idle = refl
  said_running (runs r) = said_of_run r

pub exclusive_repeat : {S K fired again start go : Signal} → Exclusive S K → HandsOver fired K again go → (start ≐ λ p h. S p h || again p h)
    → Exclusive start go
exclusive_repeat {S} {K} {fired} x w e =
    record { never_both = λ p h. rw (e p h, w.starts p h, w.goes p h) (go (S p h) (K p h) (at fired h) (x.never_both p h)) }
  where
    go : (s k a : Bool) → (s && k) ≡ false → ((s || (k && a)) && (k && not a)) ≡ false
    go true true a i = absurd (false≢true (sym i))
    go true false a i = refl
    go false false a i = refl
    go false true true i = refl
    go false true false i = refl

pub behaves_repeat : {c : Clause} {S K again start go sat_c one two sat : Signal} → EmptyFree c → Exclusive S K → HandsOver sat_c K again go
    → (start ≐ λ p h. S p h || again p h) → Behaves c start go sat_c one two → (sat ≐ λ p h. false) → Behaves (repeat c) S K sat one two
unfolding thread
behaves_repeat {c} {S} {K} {again} {start} {go} {sat_c} {one} {two} {sat} g x w e b never =
    record {
      says = λ h. rw (silent h, said_running c g (running h)) (says_by violation refl says_violation c (thread start go h) (b.says h));
    }
  where
    silent : (h : List Period) → at sat h ≡ false
    silent [] = refl
    silent (p ∷ h) = never p h

    running : (h : List Period) → Running c (thread S K h) (thread start go h)
    running [] = idle
    running (p ∷ h) =
        rw (e p h, w.starts p h, w.goes p h)
        (step c g p (S p h) (K p h) (at sat_c h) (x.never_both p h) (running h) (sym (b.says h).sat_is))
