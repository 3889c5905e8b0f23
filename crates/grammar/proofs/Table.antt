-- The table by its numbers: each kind is the kind of its own number, and which numbers are a kind's.
use Prim.Native.Nat.{ℕ, suc, ◌-◌, ◌≤◌, ◌<◌}
use native.Mathlib.Omega.{arith}
use mathlib.Core.Path.{◌≡◌, refl, sym, ap, ◌∙◌, subst}
use mathlib.Core.Logic.{⊎_elim}
use mathlib.Core.Bool.{Bool, true, false, ◌&&◌, not, cond, and-eq-true_iff, false≢true}
use mathlib.Core.List.{List, [], ◌∷◌}
use mathlib.Core.Option.{Option, none, some}
use lib.Dec.{eqb, ltb, leb}
use lib.ListN.{get_or}
use borrow.Author.Tests.{eqb-true, lt-ltb, le-leb}
use Rattle.records.specs.Refusals.{first_failing}
use Rattle.records.proofs.Cases.{lt_or_le}
use Rattle.records.proofs.Searches.{failing_below}
use Rattle.grammar.specs.Table.{Kind, kinds, first_numbered, kind_of, line, duty, ban, power, both, then, repair, repeat, when, until, deadline, any, tries, idle, succeeds, fails, seq, or, star}

pub kind_number : (k : Kind) → kind_of (line k).number ≡ some k
unfolding kind_of first_numbered
kind_number duty = refl
kind_number ban = refl
kind_number power = refl
kind_number both = refl
kind_number then = refl
kind_number repair = refl
kind_number repeat = refl
kind_number when = refl
kind_number until = refl
kind_number deadline = refl
kind_number any = refl
kind_number tries = refl
kind_number idle = refl
kind_number succeeds = refl
kind_number fails = refl
kind_number seq = refl
kind_number or = refl
kind_number star = refl

abbrev pub every : (Kind → Bool) → List Kind → Bool
every f [] = true
every f (K ∷ Ks) = f K && every f Ks

-- the kind has this number and passes this test
abbrev Passes : (Kind → Bool) → ℕ → Option Kind → Type 0
Passes f n none = Unit {0}
Passes f n (some K) = ((line K).number ≡ n) × (f K ≡ true)

-- a kind found by its number passes the test that all do
first_passes : (f : Kind → Bool) (n : ℕ) (Ks : List Kind) → every f Ks ≡ true → Passes f n (first_numbered n Ks)
unfolding first_numbered
first_passes f n [] h = tt
first_passes f n (K ∷ Ks) h = go (eqb (line K).number n) refl (first_passes f n Ks ((and-eq-true_iff (f K) (every f Ks)).0 h).1)
  where
    go : (t : Bool) → eqb (line K).number n ≡ t → Passes f n (first_numbered n Ks) → Passes f n (cond t (some K) (first_numbered n Ks))
    go true e rest = (eqb-true (line K).number n e, ((and-eq-true_iff (f K) (every f Ks)).0 h).0)
    go false e rest = rest

-- a test that all kinds of the table pass is passed by every kind
pub of_all : (f : Kind → Bool) → every f kinds ≡ true → (k : Kind) → f k ≡ true
unfolding kind_of
of_all f h k = (subst (Passes f (line k).number) (kind_number k) (first_passes f (line k).number kinds h)).1

pub number_kind : (n : ℕ) (k : Kind) → kind_of n ≡ some k → (line k).number ≡ n
unfolding kind_of
number_kind n k h = (subst (Passes (λ j. true) n) h (first_passes (λ j. true) n kinds refl)).0

-- ---- the kinds of the numbers

-- the numbers that are a kind's, and its place among the kinds
abbrev pub OfClause : ℕ → Type 0
OfClause n = ((line duty).number ≤ n) × (n ≤ (line deadline).number)

abbrev pub OfExpression : ℕ → Type 0
OfExpression n = ((line any).number ≤ n) × (n ≤ (line star).number)

abbrev pub clause_place : ℕ → ℕ
clause_place n = n - (line duty).number

abbrev pub expression_place : ℕ → ℕ
expression_place n = n - ((line any).number - (line deadline).number)

abbrev has_number : (place : ℕ → ℕ) → ℕ → Bool
has_number place n = eqb (line (get_or kinds (place n) duty)).number n

kind_at : (place : ℕ → ℕ) (a count n : ℕ) → a ≤ n → n < first_failing (has_number place) a count → kind_of n ≡ some (get_or kinds (place n) duty)
kind_at place a count n h l =
    ap kind_of (sym (eqb-true _ n (failing_below (has_number place) a count n h l))) ∙ kind_number (get_or kinds (place n) duty)

pub clause_kind : (n : ℕ) → OfClause n → kind_of n ≡ some (get_or kinds (clause_place n) duty)
unfolding first_failing
clause_kind n h = kind_at clause_place (line duty).number 10 n h.0 (omega arith)

pub expression_kind : (n : ℕ) → OfExpression n → kind_of n ≡ some (get_or kinds (expression_place n) duty)
unfolding first_failing
expression_kind n h = kind_at expression_place (line any).number 8 n h.0 (omega arith)

-- no kind has a number from a on and below b
none_between : (a b n : ℕ) → every (λ K. not (leb a (line K).number && ltb (line K).number b)) kinds ≡ true → a ≤ n → n < b
    → kind_of n ≡ none
unfolding kind_of
none_between a b n none-there h l = go (kind_of n) refl
  where
    outside : Kind → Bool
    outside K = not (leb a (line K).number && ltb (line K).number b)

    go : (o : Option Kind) → kind_of n ≡ o → kind_of n ≡ none
    go none e = e
    go (some K) e = absurd (false≢true (rw (number_kind n K e, le-leb a n h, lt-ltb n b l) at (of_all outside none-there K)))

pub no_kind : (n : ℕ) → ¬ OfClause n → ¬ OfExpression n → kind_of n ≡ none
no_kind n no-clause no-expression =
    let after-clauses = suc (line deadline).number in
    let after-expressions = suc (line star).number in
    ⊎_elim (λ l. none_between 0 (line duty).number n refl (omega arith) l)
    (λ a. ⊎_elim (λ l. absurd (no-clause (a, omega arith)))
    (λ b. ⊎_elim (λ l. none_between after-clauses (line any).number n refl b l)
    (λ c. ⊎_elim (λ l. absurd (no-expression (c, omega arith)))
    (λ d. none_between after-expressions (suc n) n refl d (omega arith))
    (lt_or_le n after-expressions)) (lt_or_le n (line any).number)) (lt_or_le n after-clauses)) (lt_or_le n (line duty).number)
