-- The row machine on the image of a clause, started fresh, shows after every list of periods what the clause means on it.
use Prim.Native.Nat.{ℕ, zero, suc, ◌+◌, ◌≤◌}
use native.Mathlib.Numerals.{add-one}
use native.Mathlib.Omega.{arith}
use mathlib.Core.Bool.{Bool, true, not, ◌||◌, cond, and-not_self}
use mathlib.Core.List.{List, [], ◌∷◌, ◌++◌, map, reverse_aux, reverse, reverse-cons}
use mathlib.Core.Logic.{◌⊎◌, inl, inr, ⊎_elim}
use mathlib.Core.Option.{Option, none, some}
use mathlib.Core.Path.{◌≡◌, refl, sym, ap, ◌∙◌}
use borrow.Author.Tests.{eq-eqb, ne_eqb}
use lib.ListN.{length, get_or}
use Rattle.periods.specs.declared.Party.TheVariants.{One as party1, Two as party2}
use Rattle.periods.specs.Periods.{Period}
use Rattle.layout.specs.Rows.{Row, never, initial, attempt, negation, conjunction, disjunction, previous}
use Rattle.states.specs.States.{State}
use Rattle.states.proofs.Fresh.{fresh_state}
use Rattle.machine.specs.Machine.{byte_of, is_true, value, new_values, values_after, outcome_of, blame_of, computed, counted, after_period, after_periods}
use Rattle.machine.proofs.Machine.{is_true-byte_of, after_undecided, after_decided}
use Rattle.contract.specs.Meaning.{Parties, only, both_parties, parties_number, Clause, Decision, undecided, satisfied, violated, meaning, EmptyFree}
use Rattle.contract.specs.Verdicts.{outcome, decision_period, blame}
use Rattle.contract.proofs.Meaning.{decision_within, within_none}
use Rattle.contract.proofs.Verdicts.{stands}
use Rattle.grammar.specs.Limits.{max_records}
use Rattle.grammar.specs.Spelling.{records, InRange}
use Rattle.image.specs.Widths.{first_row, later_row, fixed_rows}
use Rattle.image.specs.Images.{rows_for, image}
use Rattle.image.specs.Rightness.{Shows}
use Rattle.image.proofs.Signals.{Signal, is_first, ◌≐◌, Obeys, is_met, blames, is_broken, Says}
use Rattle.image.proofs.RowLaws.{values, signal, obeys}
use Rattle.image.proofs.Goodness.{writable}
use Rattle.image.proofs.Wiring.{wired_clause}
use Rattle.image.proofs.Once.{length-snoc}
use Rattle.image.proofs.Threads.{Exclusive, extend, thread}
use Rattle.image.proofs.Reports.{decided_at, someone_blamed, now, said_by}
use Rattle.image.proofs.Decisions.{once_decided}
use Rattle.image.proofs.Behaviour.{Behaves}
use Rattle.image.proofs.Clauses.{behaves}

-- ---- the root's signals: the clause begins to read in period 1 and goes on ever after

abbrev whole : List Period → Option (List Period)
whole [] = none
whole (p ∷ h) = some (reverse h ++ (p ∷ []))

module _ (S K : Signal) (first : S ≐ λ p h. is_first h) (others : K ≐ λ p h. not (S p h)) where
  exclusive : Exclusive S K
  exclusive = record { never_both = λ p h. rw (others p h) (and-not_self (S p h)) }

  reads_all : (h : List Period) → thread S K h ≡ whole h
  unfolding thread
  reads_all [] = refl
  reads_all (p ∷ []) = rw (first p [])
  reads_all (p ∷ q ∷ h) = rw (first p (q ∷ h), others p (q ∷ h), first p (q ∷ h)) (rw (reverse-cons q h) (ap (extend p) (reads_all (q ∷ h))))

-- ---- in period 1 the values before do not count

value_first : (p : Period) (old old' new : List Bool) (r : Row) → value true p old new r ≡ value true p old' new r
value_first p old old' new never = refl
value_first p old old' new initial = refl
value_first p old old' new (attempt q a) = refl
value_first p old old' new (negation x) = refl
value_first p old old' new (conjunction x y) = refl
value_first p old old' new (disjunction x y) = refl
value_first p old old' new (previous x) = refl

values_first : (p : Period) (old old' : List Bool) (rows : List Row) (n : ℕ) → new_values true p old rows n ≡ new_values true p old' rows n
unfolding new_values
values_first p old old' rows zero = refl
values_first p old old' rows (suc n) =
    rw (values_first p old old' rows n) (ap (λ (b : Bool). new_values true p old' rows n ++ (b ∷ [])) (value_first p old old' (new_values true p old' rows n) (get_or rows n never)))

bits_back : (new : List Bool) → map is_true (map byte_of new) ≡ new
bits_back [] = refl
bits_back (v ∷ new) = rw (is_true-byte_of v, bits_back new)

-- ---- what the machine makes of a report

blame_number : (b : Parties) → blame_of (blames party1 b) (blames party2 b) ≡ parties_number b
blame_number (only party1) = refl
blame_number (only party2) = refl
blame_number both_parties = refl

-- a decision that falls in period n or not at all, as the machine has it of the three values
record Decided (n : ℕ) (d : Decision) (sat one two : Bool) : Type 0 where
  outcome_is : outcome_of sat one two ≡ outcome d
  blame_is : blame_of one two ≡ blame d
  decision_is : cond (sat || one || two) n 0 ≡ decision_period d

decided : (n : ℕ) (d : Decision) → (decided_at d ≡ none) ⊎ (decided_at d ≡ some n)
    → Decided n d (is_met (now n d)) (is_broken party1 (now n d)) (is_broken party2 (now n d))
decided n undecided e = record { outcome_is = refl; blame_is = refl; decision_is = refl }
decided n (satisfied k) (inl e) = let z : ◌≡◌ {A = ℕ} 0 1 = cc in absurd (omega arith)
decided n (satisfied k) (inr e) =
    let i : k ≡ n = cc in
    rw (eq-eqb k n i) record { outcome_is = refl; blame_is = refl; decision_is = sym i }
decided n (violated k b) (inl e) = let z : ◌≡◌ {A = ℕ} 0 1 = cc in absurd (omega arith)
decided n (violated k b) (inr e) =
    let i : k ≡ n = cc in
    rw (eq-eqb k n i) record { outcome_is = rw (someone_blamed b); blame_is = blame_number b; decision_is = rw (someone_blamed b) (sym i) }

open-or-decided : (d : Decision) → (d ≡ undecided) ⊎ ¬ (outcome d ≡ 0)
open-or-decided undecided = inl refl
open-or-decided (satisfied k) = inr (λ e. omega arith)
open-or-decided (violated k b) = inr (λ e. omega arith)

-- ---- the machine

module _ (c : Clause) (r : InRange c) (g : EmptyFree c) (n : records c ≤ max_records) where
  abbrev v : ℕ → Signal
  v = signal (rows_for c)

  abbrev fresh : State
  fresh = fresh_state (length (image c).rows)

  obeyed : Obeys v 0 (rows_for c)
  unfolding image
  obeyed = obeys (rows_for c) (writable c r n).names

  root_behaves : Behaves c (v first_row) (v later_row) (v (image c).S) (v (image c).V1) (v (image c).V2)
  unfolding rows_for image
  root_behaves =
      behaves g (exclusive (v first_row) (v later_row) obeyed.1.0 obeyed.1.1.0)
      (wired_clause v obeyed.0 c fixed_rows first_row later_row [] obeyed.1.1.1)

  -- in each period the rows S, V1 and V2 say what the clause says on all the periods so far
  says_all : (p : Period) (h : List Period)
      → Says (v (image c).S p h) (v (image c).V1 p h) (v (image c).V2 p h) (said_by c (some (reverse h ++ (p ∷ []))))
  unfolding rows_for
  says_all p h = rw (reads_all (v first_row) (v later_row) obeyed.1.0 obeyed.1.1.0 (p ∷ h)) at (root_behaves.says (p ∷ h))

  -- a state after the periods of a history, the latest first: it shows the clause's meaning, counts the periods and, undecided, has the rows' values
  -- for the next period
  record Tracks (h : List Period) (s : State) : Type 0 where
    shown : Shows (meaning c (reverse h)) s
    counts : s.periods ≡ length (reverse h)
    next : meaning c (reverse h) ≡ undecided → (p : Period) → values_after (image c) p s ≡ values (rows_for c) (p ∷ h)

  at_start : Tracks [] fresh
  unfolding values_after values image
  at_start =
      record {
        shown = rw (within_none (meaning c []) (decision_within c g [])) record { outcome_is = refl; blame_is = refl; decision_is = refl };
        counts = refl;
        next = λ e p. values_first p _ [] (rows_for c) (length (rows_for c));
      }

  -- a period that finds the clause undecided
  computed_next : (p : Period) (h : List Period) (s : State) → Tracks h s → meaning c (reverse h) ≡ undecided
      → Tracks (p ∷ h) (computed (image c) (values (rows_for c) (p ∷ h)) s)
  unfolding computed values_after values image
  computed_next p h s a e =
      let w = reverse h ++ (p ∷ []) in
      let d = meaning c w in
      let l : length w ≡ suc (length (reverse h)) = length-snoc (reverse h) p in
      let m : s.periods + 1 ≡ length w = omega (arith, a.counts) in
      let t = says_all p h in
      let o : Decided (length w) d (is_met (now (length w) d)) (is_broken party1 (now (length w) d)) (is_broken party2 (now (length w) d)) =
      decided (length w) d (rw l ((once_decided c g).only_now (reverse h) p (ap decided_at e))) in
      record {
        shown = rw (reverse-cons p h) record {
          outcome_is = rw (t.sat_is, t.one_is, t.two_is) o.outcome_is;
          blame_is = rw (t.one_is, t.two_is) o.blame_is;
          decision_is = rw (t.sat_is, t.one_is, t.two_is, m) o.decision_is;
        };
        counts = rw (reverse-cons p h) m;
        next = λ u q. rw (ne_eqb (s.periods + 1) 0 (omega arith), bits_back);
      }

  -- and one that finds it decided
  counted_next : (p : Period) (h : List Period) (s : State) → Tracks h s → ¬ (meaning c (reverse h) ≡ undecided) → Tracks (p ∷ h) (counted s)
  unfolding counted
  counted_next p h s a e =
      let same : meaning c (reverse (p ∷ h)) ≡ meaning c (reverse h) = rw (reverse-cons p h) (stands c g (reverse h) (p ∷ []) e) in
      record {
        shown = rw same record { outcome_is = a.shown.outcome_is; blame_is = a.shown.blame_is; decision_is = a.shown.decision_is };
        counts = rw (reverse-cons p h, length-snoc (reverse h) p, a.counts) (add-one (length (reverse h)));
        next = λ u. absurd (e (sym same ∙ u));
      }

  -- the machine computes just where the clause is undecided
  after_next : (p : Period) (h : List Period) (s : State) → Tracks h s → Tracks (p ∷ h) (after_period (image c) p s)
  after_next p h s a =
      ⊎_elim (λ e. rw (after_undecided (image c) p s (a.shown.outcome_is ∙ ap outcome e), a.next e p) (computed_next p h s a e))
      (λ e. rw (after_decided (image c) p s (λ z. e (sym a.shown.outcome_is ∙ z))) (counted_next p h s a (λ u. e (ap outcome u))))
      (open-or-decided (meaning c (reverse h)))

  -- and so on, period by period: `reverse_aux h w` is the history's periods in their order and then w
  shows_on : (h : List Period) (s : State) → Tracks h s → (w : List Period) → Shows (meaning c (reverse_aux h w)) (after_periods (image c) s w)
  unfolding after_periods
  shows_on h s a [] = a.shown
  shows_on h s a (p ∷ w) = shows_on (p ∷ h) (after_period (image c) p s) (after_next p h s a) w

  -- the machine, started fresh, shows after every list of periods what the clause means on it
  pub shows : (w : List Period) → Shows (meaning c w) (after_periods (image c) fresh w)
  shows = shows_on [] fresh at_start
