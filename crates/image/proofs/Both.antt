-- `both` behaves. Its halves read until the whole has decided, and a half that is satisfied before the other is remembered.
use Prim.Native.Nat.{ℕ, suc, ◌≤◌}
use native.Mathlib.Omega.{arith}
use mathlib.Core.Bool.{Bool, true, false, ◌&&◌, ◌||◌, or-false, false≢true}
use mathlib.Core.List.{List, [], ◌∷◌, ◌++◌}
use mathlib.Core.Logic.{⊎_elim}
use mathlib.Core.Option.{Option, none, some}
use mathlib.Core.Path.{◌≡◌, refl, sym, ap, ◌∙◌}
use borrow.Author.Tests.{le-ltb, eq-eqb}
use lib.Dec.{eqb}
use lib.ListN.{length}
use Rattle.periods.specs.declared.Party.{Party}
use Rattle.periods.specs.declared.Party.TheVariants.{One as party1, Two as party2}
use Rattle.periods.specs.Periods.{Period}
use Rattle.contract.specs.Meaning.{Parties, only, both_parties, Clause, both, unite, Decision, undecided, satisfied, violated, both_meaning, meaning, EmptyFree}
use Rattle.contract.proofs.Meaning.{Within, decision_within, Order, left_first, right_first, together, order}
use Rattle.image.proofs.Signals.{Signal, at, ◌≐◌, nothing, met, broken, blames, is_broken, report_of, Says, exactly, UntilDone, Remembers}
use Rattle.image.proofs.Once.{is_some, Once, happens, length-snoc, none_yet}
use Rattle.image.proofs.Threads.{Exclusive, exclusive_until_done, read_next, thread}
use Rattle.image.proofs.Reports.{decided_at, satisfied_at, violated_at, unbroken, now, said_by, NotBefore, timely}
use Rattle.image.proofs.Decisions.{once_satisfied, met_happens}
use Rattle.image.proofs.Behaviour.{Behaves}
use Rattle.image.proofs.Stopping.{Unfinished, stops}

-- ---- memory

-- it has happened in what has been read
abbrev happened : (List Period → Option ℕ) → Option (List Period) → Bool
happened f none = false
happened f (some w) = is_some (f w)

module _ {f : List Period → Option ℕ} (o : Once f) where
  -- it has happened with one period more where it had before or happens now
  before_or_now : (w : List Period) (p : Period) → (is_some (f w) || happens f (some (w ++ (p ∷ [])))) ≡ is_some (f (w ++ (p ∷ [])))
  before_or_now w p = go (f w) refl
    where
      go : (k : Option ℕ) → f w ≡ k → (is_some k || happens f (some (w ++ (p ∷ [])))) ≡ is_some (f (w ++ (p ∷ [])))
      go (some k) e = rw (o.stays w p k e)
      go none e =
          ⊎_elim (λ i. rw i)
          (λ i. rw i (eq-eqb (suc (length w)) (length (w ++ (p ∷ []))) (sym (length-snoc w p))))
          (o.only_now w p e)

  remembered : {S go fired kept : Signal} → Exclusive S go → Remembers fired go kept
      → ((h : List Period) → at fired h ≡ happens f (thread S go h))
      → (h : List Period) → at kept h ≡ happened f (thread S go h)
  unfolding thread
  remembered x r fires [] = refl
  remembered {S} {go} x r fires (p ∷ h) =
      rw (r.stays p h, remembered x r fires h, fires (p ∷ h)) (step (S p h) (go p h) (thread S go h) (x.never_both p h))
    where
      step : (s k : Bool) (t : Option (List Period)) → (s && k) ≡ false
          → (k && happened f t || happens f (read_next s k p t)) ≡ happened f (read_next s k p t)
      step true true t e = absurd (false≢true (sym e))
      step true false t e = rw (none_yet o) at (before_or_now [] p)
      step false true none e = refl
      step false true (some w) e = before_or_now w p
      step false false t e = refl

-- ---- both

-- where the whole has decided nothing before period n, neither half was violated before
both_parts : (n : ℕ) (a b : Decision) → NotBefore n (decided_at (both_meaning a b)) → NotBefore n (violated_at a) × NotBefore n (violated_at b)
both_parts n undecided undecided h = (tt, tt)
both_parts n undecided (satisfied k) h = (tt, tt)
both_parts n undecided (violated k c) h = (tt, h)
both_parts n (satisfied j) undecided h = (tt, tt)
both_parts n (satisfied j) (satisfied k) h = (tt, tt)
both_parts n (satisfied j) (violated k c) h = (tt, h)
both_parts n (violated j b) undecided h = (h, tt)
both_parts n (violated j b) (satisfied k) h = (h, tt)
both_parts n (violated j b) (violated k c) h = go (order j k b c) h
  where
    go : {d : Decision} → Order j k b c d → NotBefore n (decided_at d) → (n ≤ j) × (n ≤ k)
    go (left_first l) i = omega arith
    go (right_first l) i = omega arith
    go (together l) i = omega arith

-- what a half blames in period n: a satisfied one nobody, whenever that was
blamed : (q : Party) (n : ℕ) (d : Decision) → Within n d → NotBefore n (violated_at d) → is_broken q (now n d) ≡ is_broken q (report_of d)
blamed q n undecided p h = refl
blamed q n (satisfied k) p h = unbroken q (eqb k n)
blamed q n (violated k b) p h = ap (is_broken q) (timely n (violated k b) p h)

left_alone : (b : Parties) → Says false (blames party1 b || false) (blames party2 b || false) (broken b)
left_alone b = rw (or-false (blames party1 b), or-false (blames party2 b)) (exactly (broken b))

united : (b c : Parties) → Says false (blames party1 b || blames party1 c) (blames party2 b || blames party2 c) (broken (unite b c))
united (only party1) (only party1) = exactly _
united (only party1) (only party2) = exactly _
united (only party2) (only party1) = exactly _
united (only party2) (only party2) = exactly _
united (only party1) both_parties = exactly _
united (only party2) both_parties = exactly _
united both_parties c = exactly _

both_report : (n : ℕ) (a b : Decision) → Within n a → Within n b → NotBefore n (violated_at a) → NotBefore n (violated_at b)
    → Says (is_some (satisfied_at a) && is_some (satisfied_at b)) (is_broken party1 (report_of a) || is_broken party1 (report_of b))
    (is_broken party2 (report_of a) || is_broken party2 (report_of b)) (report_of (both_meaning a b))
both_report n undecided undecided p q s t = exactly nothing
both_report n undecided (satisfied k) p q s t = exactly nothing
both_report n undecided (violated k c) p q s t = exactly (broken c)
both_report n (satisfied j) undecided p q s t = exactly nothing
both_report n (satisfied j) (satisfied k) p q s t = exactly met
both_report n (satisfied j) (violated k c) p q s t = exactly (broken c)
both_report n (violated j b) undecided p q s t = left_alone b
both_report n (violated j b) (satisfied k) p q s t = left_alone b
both_report n (violated j b) (violated k c) p q s t = rw (le-ltb j k (omega arith), le-ltb k j (omega arith)) (united b c)

both_said : (l r : Clause) → EmptyFree (both l r) → (v : Option (List Period)) → Unfinished (both l r) v
    → Says (happened (λ w. satisfied_at (meaning l w)) v && happened (λ w. satisfied_at (meaning r w)) v)
    (is_broken party1 (said_by l v) || is_broken party1 (said_by r v)) (is_broken party2 (said_by l v) || is_broken party2 (said_by r v))
    (said_by (both l r) v)
unfolding meaning EmptyFree
both_said l r g none u = exactly nothing
both_said l r g (some w) u =
    let n = length w in
    let p = decision_within l g.0 w in
    let q = decision_within r g.1 w in
    let o = both_parts n (meaning l w) (meaning r w) u in
    rw (
      blamed party1 n (meaning l w) p o.0,
      blamed party2 n (meaning l w) p o.0,
      blamed party1 n (meaning r w) q o.1,
      blamed party2 n (meaning r w) q o.1,
      timely n (both_meaning (meaning l w) (meaning r w)) (decision_within (both l r) g w) u,
    ) (both_report n (meaning l w) (meaning r w) p q o.0 o.1)

met_by_now : {c : Clause} {S go sat one two kept : Signal} → EmptyFree c → Exclusive S go → Behaves c S go sat one two → Remembers sat go kept
    → (h : List Period) → at kept h ≡ happened (λ w. satisfied_at (meaning c w)) (thread S go h)
met_by_now {c} {S} {go} g x b r =
    remembered (once_satisfied c g) x r (λ h. (b.says h).sat_is ∙ met_happens c (thread S go h))

pub behaves_both : {l r : Clause} {S K go done sat_l one_l two_l sat_r one_r two_r met_l met_r sat one two : Signal}
    → EmptyFree (both l r) → Exclusive S K → UntilDone done K go
    → Behaves l S go sat_l one_l two_l → Behaves r S go sat_r one_r two_r → Remembers sat_l go met_l → Remembers sat_r go met_r
    → (sat ≐ λ p h. met_l p h && met_r p h)
    → (one ≐ λ p h. one_l p h || one_r p h)
    → (two ≐ λ p h. two_l p h || two_r p h)
    → (done ≐ λ p h. sat p h || (one p h || two p h))
    → Behaves (both l r) S K sat one two
unfolding EmptyFree
behaves_both {l} {r} {S} {go = go} g x u bl br rl rr sat_is one_is two_is done-is =
    let y = exclusive_until_done x u in
    stops g u done-is λ p h o.
    let sl = bl.says (p ∷ h) in
    let sr = br.says (p ∷ h) in
    rw (
      sat_is p h,
      met_by_now g.0 y bl rl (p ∷ h),
      met_by_now g.1 y br rr (p ∷ h),
      one_is p h,
      sl.one_is,
      sr.one_is,
      two_is p h,
      sl.two_is,
      sr.two_is,
    ) (both_said l r g (thread S go (p ∷ h)) o)
