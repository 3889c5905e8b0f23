-- `when` behaves. Its expression reads until it is accepted, and then hands over to the clause; it is rejected in the period in which what has
-- been read ceases to begin a list of its set.
use Prim.Native.Nat.{ℕ, suc, ◌≤◌, ◌<◌}
use native.Mathlib.Omega.{arith}
use mathlib.Core.Bool.{Bool, true, false, not, ◌&&◌, ◌||◌, and-false, or_comm, not-eq-not}
use mathlib.Core.List.{List, [], ◌∷◌, ◌++◌}
use mathlib.Core.Logic.{◌⊎◌, inl, inr}
use mathlib.Core.Option.{Option, none, some}
use mathlib.Core.Path.{◌≡◌, refl, sym, ◌∙◌}
use borrow.Author.Tests.{lt-ltb, le-ltb, eq-eqb, ne_eqb}
use lib.Dec.{eqb}
use lib.ListN.{length}
use lib.Seq.{take-append_seam}
use Rattle.records.proofs.Cases.{lt_or_le}
use Rattle.periods.specs.declared.Party.{Party}
use Rattle.periods.specs.declared.Party.TheVariants.{One as party1, Two as party2}
use Rattle.periods.specs.Periods.{Period}
use Rattle.contract.specs.Expressions.{Expression, Holds}
use Rattle.contract.specs.Readings.{Reading, pending, accepted, rejected, reading_to, reading}
use Rattle.contract.specs.Meaning.{Clause, when, Decision, undecided, satisfied, after, when_meaning, meaning, EmptyFree}
use Rattle.contract.proofs.Expressions.{member_iff, begins_iff, some_list}
use Rattle.contract.proofs.Readings.{reading_by, reading-take, accepted_at}
use Rattle.image.proofs.Signals.{Signal, at, ◌≐◌, is_met, is_broken, Says, HandsOver}
use Rattle.image.proofs.Once.{happens, length-snoc}
use Rattle.image.proofs.Threads.{Exclusive, until_fired, read_next, thread, cut, cut_off}
use Rattle.image.proofs.Reports.{unbroken, now, now_by}
use Rattle.image.proofs.Decisions.{once_accepted}
use Rattle.image.proofs.Behaviour.{Behaves}
use Rattle.image.proofs.Expressions.{held_by, begins_by, ReadsAlone}
use Rattle.image.proofs.Tested.{is_pending, Tested, goes_on, accepted_last, accepted_before, rejected_by_now, accepted_now, pending_now, tested}
use Rattle.image.proofs.Handing.{Hands, keeps, passes, handing}

-- what the expression of `when` decides for itself: it keeps its rejection, which satisfies the clause
abbrev rejection : Reading → Decision
rejection r = when_meaning r (λ k. undecided)

-- rejected now: pending in the period before, and the list begins none of the set
rejected_now : {n s : ℕ} → s ≡ suc n → {r : Reading} {m b : Bool} → Tested s r m b
    → (is_pending (reading_by n r) && not b) ≡ is_met (now s (rejection r))
rejected_now h goes_on = refl
rejected_now {n} {s} h accepted_last = and-false (is_pending (reading_by n (accepted s)))
rejected_now {n} h (accepted_before {k} l) = rw (le-ltb n k (omega arith))
rejected_now {n} {s} h (rejected_by_now {k} l) = go (lt_or_le n k)
  where
    go : (n < k) ⊎ (k ≤ n) → (is_pending (reading_by n (rejected k)) && true) ≡ is_met (now s (satisfied k))
    go (inl g) = rw (lt-ltb n k g, eq-eqb k s (omega arith))
    go (inr g) = rw (le-ltb n k g, ne_eqb k s (λ i. omega arith))

-- ---- the same of what has been read, if anything has

module _ (e : Expression) where
  abbrev accepted_in : List Period → Option ℕ
  accepted_in w = accepted_at (reading e w)

  abbrev pending_by : Option (List Period) → Bool
  pending_by none = false
  pending_by (some w) = is_pending (reading e w)

  abbrev rejected_by : Option (List Period) → Bool
  rejected_by t = is_met (now_by (λ w. rejection (reading e w)) t)

  accepted_by_lem : (t : Option (List Period)) → held_by e (cut accepted_in t) ≡ happens accepted_in t
  accepted_by_lem none = refl
  accepted_by_lem (some w) = accepted_now (tested e w)

  pending_by_lem : (t : Option (List Period)) → (not (held_by e (cut accepted_in t)) && begins_by e (cut accepted_in t)) ≡ pending_by t
  pending_by_lem none = refl
  pending_by_lem (some w) = pending_now (tested e w)

  -- one period more
  rejected_next : (w : List Period) (p : Period) → let t = some (w ++ (p ∷ [])) in
      (is_pending (reading e w) && not (begins_by e (cut accepted_in t))) ≡ rejected_by t
  rejected_next w p =
      let before : reading e w ≡ reading_by (length w) (reading e (w ++ (p ∷ []))) =
      rw (take-append_seam w (p ∷ [])) at (reading-take e (w ++ (p ∷ [])) (length w)) in
      rw before (rejected_now (length-snoc w p) (tested e (w ++ (p ∷ []))))

  pending_first : ¬ Holds e [] → is_pending (reading e []) ≡ true
  unfolding reading reading_to
  pending_first g = rw ((not-eq-not {b = false}).0 (λ m. g ((member_iff e []).0 m)), (begins_iff e []).1 (some_list e))

  -- by whether reading begins with the period, and whether it goes on
  rejected_by_lem : ¬ Holds e [] → (p : Period) (s k : Bool) (t : Option (List Period)) → let u = read_next s k p t in
      ((s || (k && pending_by t)) && not (begins_by e (cut accepted_in u))) ≡ rejected_by u
  rejected_by_lem g p true k t = rw (pending_first g) at (rejected_next [] p)
  rejected_by_lem g p false true none = refl
  rejected_by_lem g p false true (some w) = rejected_next w p
  rejected_by_lem g p false false t = refl

-- ---- the signals

module _ (e : Expression) (guarded : ¬ Holds e []) {S K start go end live : Signal} (w : HandsOver end K start go)
    (reader : ReadsAlone e S go end live) where
  ends-accepted : (h : List Period) → thread S go h ≡ cut (accepted_in e) (thread S K h) → at end h ≡ happens (accepted_in e) (thread S K h)
  ends-accepted h c = rw (reader.ends h, c) (accepted_by_lem e (thread S K h))

  -- the expression reads until it is accepted
  reads_until : (h : List Period) → thread S go h ≡ cut (accepted_in e) (thread S K h)
  reads_until h = cut_off (once_accepted e guarded) S (until_fired w) ends-accepted h

  module _ {reads : Signal} (reads-is : reads ≐ λ p h. S p h || (go p h && at live h)) where
    reads_pending : (p : Period) (h : List Period) → reads p h ≡ (S p h || (K p h && pending_by e (thread S K h)))
    reads_pending p h =
        rw (
          reads-is p h,
          w.goes p h,
          regroup (K p h) (at end h) (at live h),
          reader.goes_on h,
          reader.ends h,
          reads_until h,
          pending_by_lem e (thread S K h),
        )
      where
        regroup : (k a b : Bool) → (k && not a && b) ≡ (k && (not a && (a || b)))
        regroup false a b = refl
        regroup true false b = refl
        regroup true true b = refl

    rejects : (h : List Period) → at (λ p i. reads p i && not (end p i || live p i)) h ≡ rejected_by e (thread S K h)
    unfolding thread
    rejects [] = refl
    rejects (p ∷ h) =
        rw (reads_pending p h, reader.goes_on (p ∷ h), reads_until (p ∷ h)) (rejected_by_lem e guarded p (S p h) (K p h) (thread S K h))

-- ---- the clause

hands_when : (r : Reading) (second : ℕ → Decision) → Hands second (accepted_at r) (rejection r) (when_meaning r second)
hands_when pending second = keeps
hands_when (accepted k) second = passes
hands_when (rejected k) second = keeps

says_rejection : (e : Expression) (t : Option (List Period)) {x : Bool} → x ≡ rejected_by e t
    → Says x false false (now_by (λ w. rejection (reading e w)) t)
says_rejection e none h = record { sat_is = h; one_is = refl; two_is = refl }
says_rejection e (some w) h = record { sat_is = h; one_is = never party1 (reading e w); two_is = never party2 (reading e w) }
  where
    never : (q : Party) (r : Reading) → false ≡ is_broken q (now (length w) (rejection r))
    never q pending = refl
    never q (accepted k) = refl
    never q (rejected k) = sym (unbroken q (eqb k (length w)))

pub behaves_when : {e : Expression} {c : Clause} {S K start go end live reads sat_c one two sat : Signal} → EmptyFree (when e c) → Exclusive S K
    → ReadsAlone e S go end live → HandsOver end K start go → Behaves c start go sat_c one two
    → (reads ≐ λ p h. S p h || (go p h && at live h))
    → (sat ≐ λ p h. sat_c p h || (reads p h && not (end p h || live p h))) → Behaves (when e c) S K sat one two
unfolding EmptyFree meaning
behaves_when {e} {c} {S} {K} {end = end} {live} {reads} {sat_c} {sat = sat} g x reader w right reads-is sat_is = record {
  says = λ h. rw (sat_at h)
      (handing (once_accepted e g.0) (λ v. rejection (reading e v)) (when e c) c g.1
      (λ v. hands_when (reading e v) (after (meaning c) v))
      x w (λ i. ends-accepted e g.0 w reader i (reads_until e g.0 w reader i)) right h
      (says_rejection e (thread S K h) (rejects e g.0 w reader reads-is h)));
}
  where
    sat_at : (h : List Period) → at sat h ≡ (at (λ p i. reads p i && not (end p i || live p i)) h || at sat_c h)
    sat_at [] = refl
    sat_at (p ∷ h) = sat_is p h ∙ or_comm (sat_c p h) (reads p h && not (end p h || live p h))
