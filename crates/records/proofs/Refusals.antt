-- Tests in their order, the numbers of refusals, and which faults a test can give. Document 01, "Replies that refuse".
use Prim.Native.Nat.{ℕ, ◌≤◌, ◌<◌, ◌^◌}
use native.Mathlib.Omega.{arith}
use mathlib.Core.Path.{◌≡◌, refl, sym, ap, ◌∙◌}
use mathlib.Core.Bool.{Bool, true, false, ◌&&◌, ◌||◌, and-eq-true_iff, or_assoc, or-true, false≢true}
use mathlib.Core.List.{List, [], ◌∷◌, ◌++◌, map}
use Rattle.std.specs.Prelude.{Ok, Err}
use Rattle.records.specs.declared.Fault.{Fault}
use Rattle.records.specs.declared.Fault.TheVariants.{BadLength, BadMark, UnknownKind, BadField, BadOperands, NotOneClause, EmptyList, ShortBuffer, BadImage, BadState, BadPeriod, FullCount, LongInput, BadLog, OutOfOrder, ShortTrace}
use Rattle.records.specs.Refusals.{Test, Passed, Refused, fault_number, number_of, require, first_of, passed}
use lib.Dec.{eqb, leb, ltb, lit<}
use borrow.Author.Tests.{leb-true, ltb-true}

-- ---- tests in their order

-- of two tests that are passed, each is
pub first_passed : (s u : Test) → first_of s u ≡ Passed → (s ≡ Passed) × (u ≡ Passed)
first_passed (Ok _) u e = (refl, e)
first_passed (Err r) u e = (e, cc)

pub passed_first : (t u : Test) → t ≡ Passed → u ≡ Passed → first_of t u ≡ Passed
passed_first t u h k = rw (h, k)

-- where the first test is refused, the second is not made
pub first_refused : (t u : Test) → ¬ (t ≡ Passed) → first_of t u ≡ t
first_refused (Ok _) u h = absurd (h refl)
first_refused (Err r) u h = refl

-- a test that is passed and made last adds nothing
pub first_only : (t : Test) → first_of t Passed ≡ t
first_only (Ok _) = refl
first_only (Err r) = refl

-- a refusal is no passed test
pub refused_passed : {f : Fault} {p : ℕ} → Refused f p ≡ Passed → ⊥
refused_passed e = let z : ◌≡◌ {A = ℕ} 0 1 = cc in omega arith

pub is_refused : {s : Test} {f : Fault} {p : ℕ} → s ≡ Refused f p → ¬ (s ≡ Passed)
is_refused e h = refused_passed (sym e ∙ h)

-- a test that is passed shows its condition
pub require-passed : (t : Bool) (f : Fault) (p : ℕ) → require t f p ≡ Passed → t ≡ true
require-passed true f p e = refl
require-passed false f p e = absurd (refused_passed e)

-- ---- the numbers of tests

-- document 01's table, in its order, and what document 02 adds to it
abbrev pub faults : List Fault
faults =
    BadLength ∷ BadMark ∷ UnknownKind ∷ BadField ∷ BadOperands ∷ NotOneClause ∷ EmptyList
    ∷ ShortBuffer ∷ BadImage ∷ BadState ∷ BadPeriod ∷ FullCount ∷ LongInput
    ∷ BadLog ∷ OutOfOrder ∷ ShortTrace ∷ []

pub fault_numbers : map fault_number faults ≡ 1 ∷ 2 ∷ 3 ∷ 4 ∷ 5 ∷ 6 ∷ 7 ∷ 8 ∷ 9 ∷ 10 ∷ 11 ∷ 12 ∷ 13 ∷ 14 ∷ 15 ∷ 16 ∷ []
fault_numbers = refl

-- a fault's number is 1 or above, and of one byte
numbered : (f : Fault) → (leb 1 (fault_number f) && ltb (fault_number f) 256) ≡ true
numbered BadLength = refl
numbered BadMark = refl
numbered UnknownKind = refl
numbered BadField = refl
numbered BadOperands = refl
numbered NotOneClause = refl
numbered EmptyList = refl
numbered ShortBuffer = refl
numbered BadImage = refl
numbered BadState = refl
numbered BadPeriod = refl
numbered FullCount = refl
numbered LongInput = refl
numbered BadLog = refl
numbered OutOfOrder = refl
numbered ShortTrace = refl

pub fault_bounds : (f : Fault) → (1 ≤ fault_number f) × (fault_number f < 256)
fault_bounds f =
    let t = (and-eq-true_iff (leb 1 (fault_number f)) _).0 (numbered f) in
    (leb-true 1 (fault_number f) t.0, ltb-true (fault_number f) 256 t.1)

-- a number of 4 bytes
pub number_small : (t : Test) → number_of t < 256 ^ 4
number_small (Ok _) = lit< tt
number_small (Err r) = omega (arith, (fault_bounds r.fault).1)

pub passed_is : (t : Test) → passed t ≡ true → t ≡ Passed
passed_is (Ok _) h = refl
passed_is (Err r) h = absurd (false≢true h)

pub passed-not : (t : Test) → passed t ≡ false → ¬ (t ≡ Passed)
passed-not t h e = false≢true (sym h ∙ ap passed e)

-- ---- which faults a test can give

-- the fault is one of these
abbrev pub among : List Fault → Fault → Bool
among [] f = false
among (g ∷ gs) f = eqb (fault_number f) (fault_number g) || among gs f

-- the test is passed, or refused for one of these faults
abbrev pub only_for : List Fault → Test → Bool
only_for fs (Ok _) = true
only_for fs (Err r) = among fs r.fault

pub only_require : (fs : List Fault) (f : Fault) → among fs f ≡ true → (ok : Bool) (k : ℕ) → only_for fs (require ok f k) ≡ true
only_require fs f h true k = refl
only_require fs f h false k = h

pub only_first : (fs : List Fault) (s t : Test) → only_for fs s ≡ true → only_for fs t ≡ true → only_for fs (first_of s t) ≡ true
only_first fs (Ok _) t h k = k
only_first fs (Err r) t h k = h

pub among_append : (fs gs : List Fault) (f : Fault) → among (fs ++ gs) f ≡ (among fs f || among gs f)
among_append [] gs f = refl
among_append (g ∷ fs) gs f = rw (among_append fs gs f) (sym (or_assoc (eqb (fault_number f) (fault_number g)) (among fs f) (among gs f)))

-- a test with faults of its own, among more
pub only_among : (fs gs hs : List Fault) (t : Test) → only_for gs t ≡ true → only_for (fs ++ (gs ++ hs)) t ≡ true
only_among fs gs hs (Ok _) h = refl
only_among fs gs hs (Err r) h = rw (among_append fs (gs ++ hs) r.fault, among_append gs hs r.fault, h) (or-true (among fs r.fault))

-- of two tests, each with faults of its own
pub only_append : (fs gs : List Fault) (s t : Test) → only_for fs s ≡ true → only_for gs t ≡ true → only_for (fs ++ gs) (first_of s t) ≡ true
only_append fs gs (Ok _) (Ok _) h k = refl
only_append fs gs (Ok _) (Err r) h k = rw (among_append fs gs r.fault, k) (or-true (among fs r.fault))
only_append fs gs (Err r) t h k = rw (among_append fs gs r.fault, h)
