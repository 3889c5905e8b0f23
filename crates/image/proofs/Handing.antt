-- `then` and `repair` behave. They hand over from one part to another, and share one law with `when` (`handing`): in every period at most one of
-- the two parts has something to say, and the clause says just that.
use Prim.Native.Nat.{ℕ, ◌+◌, ◌-◌, ◌≤◌, ◌<◌}
use native.Mathlib.Omega.{arith}
use mathlib.Core.Bool.{Bool, false, ◌||◌, or-false}
use mathlib.Core.List.{List, []}
use mathlib.Core.Logic.{◌⊎◌, inl, inr}
use mathlib.Core.Option.{Option, none, some}
use mathlib.Core.Path.{◌≡◌, refl, sym, ◌∙◌}
use borrow.Author.Tests.{lt-ltb, le-ltb}
use lib.Dec.{eqb}
use lib.ListN.{length, drop, length-drop, drop_of_length-le}
use Rattle.records.proofs.Cases.{lt_or_le}
use Rattle.periods.specs.declared.Party.TheVariants.{One as party1, Two as party2}
use Rattle.periods.specs.Periods.{Period}
use Rattle.contract.specs.Meaning.{Clause, then, repair, Decision, undecided, satisfied, violated, after, then_meaning, repair_meaning, meaning, EmptyFree}
use Rattle.contract.proofs.Meaning.{decision_within, within_none}
use Rattle.image.proofs.Signals.{Signal, at, ◌≐◌, at_or, Says, HandsOver}
use Rattle.image.proofs.Once.{Once, happens}
use Rattle.image.proofs.Threads.{Exclusive, thread, rest_after, handed, handed_over}
use Rattle.image.proofs.Reports.{unbroken, unmet, satisfied_at, violated_at, now, now_by, said_by, now_later}
use Rattle.image.proofs.Decisions.{once_satisfied, once_violated, met_happens, broken_happens}
use Rattle.image.proofs.Behaviour.{Behaves}

-- ---- the shared law

-- The decision of a clause with two parts: as long as the first part does not hand over it is the first part's own, and when that hands over
-- at k it is what `second` gives.
pub data Hands (second : ℕ → Decision) : Option ℕ → (own whole : Decision) → Type 0 where
  keeps : {d : Decision} → Hands second none d d
  passes : {k : ℕ} → Hands second (some k) undecided (second k)

-- the second part says on the rest of the list what its decision says in periods of the whole
said_after : (c : Clause) → EmptyFree c → (w : List Period) (k : ℕ) → said_by c (rest_after (some k) w) ≡ now (length w) (after (meaning c) w k)
said_after c g w k = go (lt_or_le k (length w))
  where
    go : (k < length w) ⊎ (length w ≤ k) → said_by c (rest_after (some k) w) ≡ now (length w) (after (meaning c) w k)
    go (inl l) =
        let n : k + (length w - k) ≡ length w = omega arith in
        rw (lt-ltb k (length w) l, length-drop k w) (rw n at (sym (now_later k (length w - k) (meaning c (drop k w)))))
    go (inr l) = rw (le-ltb k (length w) l, drop_of_length-le w l, within_none (meaning c []) (decision_within c g []))

-- one of the two parts speaks, or none
one_speaks : (c : Clause) → EmptyFree c → (w : List Period) {o : Option ℕ} {own whole : Decision} → Hands (after (meaning c) w) o own whole
    → {x y z x' y' z' : Bool} → Says x y z (now (length w) own) → Says x' y' z' (said_by c (rest_after o w))
    → Says (x || x') (y || y') (z || z') (now (length w) whole)
one_speaks c g w keeps s t = record {
  sat_is = rw (t.sat_is, or-false) s.sat_is;
  one_is = rw (t.one_is, or-false) s.one_is;
  two_is = rw (t.two_is, or-false) s.two_is;
}
one_speaks c g w (passes {k = k}) s t = rw (← said_after c g w k) record {
  sat_is = rw s.sat_is t.sat_is;
  one_is = rw s.one_is t.one_is;
  two_is = rw s.two_is t.two_is;
}

-- Of a clause whose first part hands over at period f, and decides `own` for itself: it says what either of its two parts says.
module _ {f : List Period → Option ℕ} (once : Once f) (own : List Period → Decision) (whole c : Clause) (free : EmptyFree c)
    (hands : (w : List Period) → Hands (after (meaning c) w) (f w) (own w) (meaning whole w)) where
  one_says : (t : Option (List Period)) {x y z x' y' z' : Bool} → Says x y z (now_by own t) → Says x' y' z' (said_by c (handed f t))
      → Says (x || x') (y || y') (z || z') (said_by whole t)
  one_says none p q = record { sat_is = rw (p.sat_is, q.sat_is); one_is = rw (p.one_is, q.one_is); two_is = rw (p.two_is, q.two_is) }
  one_says (some w) p q = one_speaks c free w (hands w) p q

  pub handing : {fired S K start go sat one two : Signal} → Exclusive S K → HandsOver fired K start go
      → ((h : List Period) → at fired h ≡ happens f (thread S K h)) → Behaves c start go sat one two
      → (h : List Period) {x y z : Bool} → Says x y z (now_by own (thread S K h))
      → Says (x || at sat h) (y || at one h) (z || at two h) (said_by whole (thread S K h))
  handing {S = S} {K = K} x w fires b h p = one_says (thread S K h) p (rw (handed_over once x w fires h) at (b.says h))

-- ---- `then` and `repair`

-- what is said of a part of each decision is said of that part of a clause's decision
pub says_by : (part : Decision → Decision) → part undecided ≡ undecided → {x y z x' y' z' : Bool}
    → ((n : ℕ) (d : Decision) → Says x y z (now n d) → Says x' y' z' (now n (part d)))
    → (c : Clause) (t : Option (List Period)) → Says x y z (said_by c t) → Says x' y' z' (now_by (λ w. part (meaning c w)) t)
says_by part u f c none s = rw u at (f 0 undecided s)
says_by part u f c (some w) s = f (length w) (meaning c w) s

-- the first part of `then` keeps its violation
abbrev pub violation : Decision → Decision
violation d = then_meaning d (λ k. undecided)

hands_then : (d : Decision) (second : ℕ → Decision) → Hands second (satisfied_at d) (violation d) (then_meaning d second)
hands_then undecided second = keeps
hands_then (satisfied k) second = passes
hands_then (violated k b) second = keeps

pub says_violation : {x y z : Bool} (n : ℕ) (d : Decision) → Says x y z (now n d) → Says false y z (now n (violation d))
says_violation n undecided s = record { sat_is = refl; one_is = s.one_is; two_is = s.two_is }
says_violation n (satisfied k) s =
    record { sat_is = refl; one_is = s.one_is ∙ unbroken party1 (eqb k n); two_is = s.two_is ∙ unbroken party2 (eqb k n) }
says_violation n (violated k b) s = record { sat_is = sym (unmet b (eqb k n)); one_is = s.one_is; two_is = s.two_is }

pub behaves_then : {l r : Clause} {S K start go sat_l one_l two_l sat_r one_r two_r one two : Signal} → EmptyFree (then l r) → Exclusive S K
    → Behaves l S K sat_l one_l two_l → HandsOver sat_l K start go → Behaves r start go sat_r one_r two_r
    → (one ≐ λ p h. one_l p h || one_r p h) → (two ≐ λ p h. two_l p h || two_r p h) → Behaves (then l r) S K sat_r one two
unfolding EmptyFree meaning
behaves_then {l} {r} {S} {K} {one_l = one_l} {two_l} {one_r = one_r} {two_r} {one} {two} g x left w right one-or two-or = record {
  says = λ h. rw (at_or one one_l one_r one-or h, at_or two two_l two_r two-or h)
      (handing (once_satisfied l g.0) (λ v. violation (meaning l v)) (then l r) r g.1
      (λ v. hands_then (meaning l v) (after (meaning r) v))
      x w (λ i. (left.says i).sat_is ∙ met_happens l (thread S K i)) right h
      (says_by violation refl says_violation l (thread S K h) (left.says h)));
}

-- the first part of `repair` keeps its satisfaction
abbrev satisfaction : Decision → Decision
satisfaction d = repair_meaning d (λ k. undecided)

hands_repair : (d : Decision) (second : ℕ → Decision) → Hands second (violated_at d) (satisfaction d) (repair_meaning d second)
hands_repair undecided second = keeps
hands_repair (satisfied k) second = keeps
hands_repair (violated k b) second = passes

says_satisfaction : {x y z : Bool} (n : ℕ) (d : Decision) → Says x y z (now n d) → Says x false false (now n (satisfaction d))
says_satisfaction n undecided s = record { sat_is = s.sat_is; one_is = refl; two_is = refl }
says_satisfaction n (satisfied k) s =
    record { sat_is = s.sat_is; one_is = sym (unbroken party1 (eqb k n)); two_is = sym (unbroken party2 (eqb k n)) }
says_satisfaction n (violated k b) s = record { sat_is = s.sat_is ∙ unmet b (eqb k n); one_is = refl; two_is = refl }

pub behaves_repair : {l r : Clause} {S K fired start go sat_l one_l two_l sat_r one_r two_r sat : Signal} → EmptyFree (repair l r) → Exclusive S K
    → Behaves l S K sat_l one_l two_l → (fired ≐ λ p h. one_l p h || two_l p h) → HandsOver fired K start go → Behaves r start go sat_r one_r two_r
    → (sat ≐ λ p h. sat_l p h || sat_r p h) → Behaves (repair l r) S K sat one_r two_r
unfolding EmptyFree meaning
behaves_repair {l} {r} {S} {K} {fired} {sat_l = sat_l} {one_l} {two_l} {sat_r} {sat = sat} g x left fired-or w right sat_or = record {
  says = λ h. rw (at_or sat sat_l sat_r sat_or h)
      (handing (once_violated l g.0) (λ v. satisfaction (meaning l v)) (repair l r) r g.1
      (λ v. hands_repair (meaning l v) (after (meaning r) v))
      x w fires right h
      (says_by satisfaction refl says_satisfaction l (thread S K h) (left.says h)));
}
  where
    fires : (h : List Period) → at fired h ≡ happens (λ v. violated_at (meaning l v)) (thread S K h)
    fires h = rw (at_or fired one_l two_l fired-or h, (left.says h).one_is, (left.says h).two_is) (broken_happens l (thread S K h))
