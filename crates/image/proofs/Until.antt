-- `until` behaves. The clause and the expression read until the whole has decided. The expression e, begun in every period in which the `until` reads, is
-- wired as `seq (star any) e` begun with it: what has been read is in that set where some stretch to the last period is in the set of e.
use Prim.Native.Nat.{ℕ, ◌≤◌, ◌<◌}
use native.Mathlib.Nat.{le_refl}
use native.Mathlib.Omega.{arith}
use mathlib.Core.Bool.{false, not, ◌&&◌, ◌||◌, cond, and-true, or-false, not-eq-not}
use mathlib.Core.List.{List, [], ◌∷◌}
use mathlib.Core.Logic.{◌⊎◌, inl, inr}
use mathlib.Core.Option.{Option, none, some}
use mathlib.Core.Path.{◌≡◌, refl, sym}
use borrow.Author.Tests.{lt-leb, le-leb}
use lib.Dec.{leb}
use lib.ListN.{length}
use lib.Seq.{take_all, take-length}
use Rattle.records.proofs.Cases.{lt_or_le}
use Rattle.periods.specs.declared.Party.TheVariants.{One as party1, Two as party2}
use Rattle.periods.specs.Periods.{Period}
use Rattle.contract.specs.Expressions.{any, holds, Expression, atom, star, Holds, member, holds_empty}
use Rattle.contract.specs.Readings.{ends, acceptance}
use Rattle.contract.specs.Meaning.{Clause, until, Decision, undecided, satisfied, violated, until_meaning, meaning, EmptyFree}
use Rattle.contract.proofs.Expressions.{empty_iff}
use Rattle.contract.proofs.Stretches.{ends_iff, acceptance_iff, unaccepted_iff, after_any, member_after_any}
use Rattle.contract.proofs.Meaning.{Within, decision_within}
use Rattle.image.proofs.Signals.{Signal, ◌≐◌, nothing, met, broken, is_met, is_broken, report_of, Says, exactly, UntilDone, JoinsOn, Remembers, where_empty, WiredExpression, wired_atom, wired_seq, wired_star}
use Rattle.image.proofs.Once.{is_some}
use Rattle.image.proofs.Threads.{thread}
use Rattle.image.proofs.Reports.{decided_at, said_by, NotBefore, timely, someone_blamed}
use Rattle.image.proofs.Behaviour.{Behaves}
use Rattle.image.proofs.Expressions.{held_by, ReadsAlone}
use Rattle.image.proofs.Stopping.{Unfinished, stops}

-- `reads`, in which e begins, is the end of a list of `star any` as well
pub wired_after_any : {e : Expression} {S go reads end live : Signal} → ¬ Holds e [] → Remembers S go reads → WiredExpression e reads go end live
    → WiredExpression (after_any e) S go end (λ p h. reads p h || live p h || reads p h)
unfolding holds holds_empty
wired_after_any {e} {S} {go} {reads} {end} g r w = wired_seq {end = end} every w again only_there (λ p h. refl)
  where
    again : JoinsOn reads S go reads
    again = record { starts = r.stays }

    every : WiredExpression (star (atom any)) S go reads reads
    every = wired_star {live_e = λ p h. false} (wired_atom (λ p h. sym (and-true (reads p h))) (λ p h. refl)) again (λ p h. refl)

    -- e doesn't hold the empty list
    only_there : end ≐ λ p h. end p h || where_empty e reads p h
    only_there p h = rw ((not-eq-not {b = false}).0 (λ t. g ((empty_iff e).0 t)), or-false (end p h))

-- an expression that was not accepted before the last period of a list is accepted there if some stretch to it is in the set
accepted_there : (e : Expression) → ¬ Holds e [] → (w : List Period) → NotBefore (length w) (acceptance e w) → member (after_any e) w ≡ is_some (acceptance e w)
accepted_there e g w h = rw (member_after_any e g w) (go (acceptance e w) refl h)
  where
    go : (a : Option ℕ) → acceptance e w ≡ a → NotBefore (length w) a → ends e w ≡ is_some a
    go none i h =
        let n = le_refl (length w) in
        (not-eq-not {b = false}).0 (λ t. (unaccepted_iff e w).0 i (length w) n ((ends_iff e w (length w) n).0 (rw (take-length w) t)))
    go (some k) i h = let a = (acceptance_iff e w k).0 i in rw (take_all k w h) at ((ends_iff e w k a.within).1 a.held)

-- of a decision in period j and an acceptance in period k, the one that counts is the earlier
neither_before : (n j k : ℕ) (d : Decision) → decided_at d ≡ some j → NotBefore n (decided_at (cond (leb j k) d (satisfied k))) → (n ≤ j) × (n ≤ k)
neither_before n j k d e h = go (lt_or_le k j)
  where
    go : (k < j) ⊎ (j ≤ k) → (n ≤ j) × (n ≤ k)
    go (inl l) = let i : n ≤ k = rw (lt-leb j k l) at h in omega arith
    go (inr l) = let i : n ≤ j = rw (le-leb j k l, e) at h in omega arith

-- where the whole has decided nothing before period n, the clause has not and the expression was not accepted before
until_parts : (n : ℕ) (d : Decision) (a : Option ℕ) → NotBefore n (decided_at (until_meaning d a)) → NotBefore n (decided_at d) × NotBefore n a
until_parts n d none h = (h, tt)
until_parts n undecided (some k) h = (tt, h)
until_parts n (satisfied j) (some k) h = neither_before n j k (satisfied j) refl h
until_parts n (violated j b) (some k) h = neither_before n j k (violated j b) refl h

until_report : (n : ℕ) (d : Decision) (a : Option ℕ) → Within n d → NotBefore n a
    → Says (is_met (report_of d) || (is_some a && not (is_broken party1 (report_of d) || is_broken party2 (report_of d))))
    (is_broken party1 (report_of d)) (is_broken party2 (report_of d)) (report_of (until_meaning d a))
until_report n d none p h = rw (or-false (is_met (report_of d))) (exactly (report_of d))
until_report n undecided (some k) p h = exactly met
until_report n (satisfied j) (some k) p h = rw (le-leb j k (omega arith)) (exactly met)
until_report n (violated j b) (some k) p h = rw (le-leb j k (omega arith), someone_blamed b) (exactly (broken b))

until_said : (c : Clause) (e : Expression) → EmptyFree (until c e) → (v : Option (List Period)) → Unfinished (until c e) v
    → Says (is_met (said_by c v) || (held_by (after_any e) v && not (is_broken party1 (said_by c v) || is_broken party2 (said_by c v))))
    (is_broken party1 (said_by c v)) (is_broken party2 (said_by c v)) (said_by (until c e) v)
unfolding meaning EmptyFree
until_said c e g none u = exactly nothing
until_said c e g (some w) u =
    let n = length w in
    let p = decision_within c g.0 w in
    let o = until_parts n (meaning c w) (acceptance e w) u in
    rw (
      timely n (meaning c w) p o.0,
      accepted_there e g.1 w o.1,
      timely n (until_meaning (meaning c w) (acceptance e w)) (decision_within (until c e) g w) u,
    ) (until_report n (meaning c w) (acceptance e w) p o.1)

pub behaves_until : {c : Clause} {e : Expression} {S K go done end live sat_c one two sat : Signal}
    → EmptyFree (until c e) → UntilDone done K go → ReadsAlone (after_any e) S go end live → Behaves c S go sat_c one two
    → (sat ≐ λ p h. sat_c p h || (end p h && not (one p h || two p h)))
    → (done ≐ λ p h. sat p h || (one p h || two p h))
    → Behaves (until c e) S K sat one two
behaves_until {c} {e} {S} {go = go} g u reader b sat_is done-is =
    stops g u done-is λ p h o.
    let s = b.says (p ∷ h) in
    rw (sat_is p h, reader.ends (p ∷ h), s.sat_is, s.one_is, s.two_is) (until_said c e g (thread S go (p ∷ h)) o)
