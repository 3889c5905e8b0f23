-- What holds of a period record in each form.
use Prim.Native.Nat.{ℕ, ◌+◌, ◌*◌, ◌%◌, ◌^◌, ◌≤◌, ◌<◌}
use native.Mathlib.Nat.{mul-add, mul-one, mul-zero}
use native.Mathlib.Omega.{arith}
use mathlib.Core.Bool.{Bool, true, false, ◌||◌, or-true, or-false, cond}
use mathlib.Core.List.{List, [], ◌∷◌}
use mathlib.Core.Path.{◌≡◌, refl, sym, ◌∙◌}
use lib.Dec.{eqb}
use lib.ListN.{length, take}
use lib.Seq.{get_or-take}
use Rattle.std.proofs.lemmas.Bool.Decides.{nat_tests}
use Rattle.std.specs.List.{starts_with}
use Rattle.records.specs.Marks.{wide_mark, marked}
use Rattle.records.proofs.Marks.{same_marked}
use Rattle.periods.specs.declared.Form.{Form}
use Rattle.periods.specs.declared.Form.TheVariants.{Narrow, Wide}
use Rattle.periods.specs.Forms.{form_mark, mask_bytes, period_bytes, either_mark}
use Rattle.periods.specs.Limits.{actions}
use Rattle.periods.specs.Traces.{whole_periods, form_of}

-- ---- lengths

-- a record has room for its mark
pub mark_inside : (f : Form) → 2 ≤ period_bytes f
mark_inside Narrow = omega arith
mark_inside Wide = omega arith

-- no form's mask is longer than the wide one's, which has no bit above the last action's
pub wider : (f : Form) {n : ℕ} → n < 256 ^ mask_bytes f → n < 256 ^ mask_bytes Wide
wider Narrow h = omega arith
wider Wide h = h

pub mask_small : (f : Form) {n : ℕ} → n < 256 ^ mask_bytes f → n < 2 ^ actions
mask_small f h = wider f h

-- the first k of the whole records stand inside the bytes, and so does each record; and each of them before the next
pub records-inside : (f : Form) (l : List ℕ) (k : ℕ) → k ≤ whole_periods f l → period_bytes f * k ≤ length l
unfolding whole_periods
records-inside Narrow l k h = omega arith
records-inside Wide l k h = omega arith

pub period_inside : (f : Form) (l : List ℕ) (k : ℕ) → k < whole_periods f l → period_bytes f * k + period_bytes f ≤ length l
period_inside f l k h = rw (mul-add (period_bytes f) k 1, mul-one (period_bytes f)) at (records-inside f l (k + 1) (omega arith))

pub next_inside : (f : Form) (i k : ℕ) → i < k → period_bytes f * i + period_bytes f ≤ period_bytes f * k
next_inside Narrow i k h = omega arith
next_inside Wide i k h = omega arith

-- a record or more have room for a mark
pub some_marked : (f : Form) (k : ℕ) → 0 < k → 2 ≤ period_bytes f * k
some_marked f k h = let i = next_inside f 0 k h in let j = mark_inside f in omega arith

-- no records have no bytes, in whichever form
pub no_bytes : (f g : Form) (k : ℕ) → k ≤ 0 → period_bytes f * k ≡ period_bytes g * k
no_bytes f g k h = let e : k ≡ 0 = omega arith in rw e (mul-zero (period_bytes f) ∙ sym (mul-zero (period_bytes g)))

-- as many bytes as k records have are k records, and as many or more have them whole
pub k_whole : (f : Form) (l : List ℕ) (k : ℕ) → length l ≡ period_bytes f * k → (whole_periods f l ≡ k) × (length l % period_bytes f ≡ 0)
unfolding whole_periods
k_whole Narrow l k h = (omega arith, omega arith)
k_whole Wide l k h = (omega arith, omega arith)

pub whole_bytes : (f : Form) (l : List ℕ) → length l % period_bytes f ≡ 0 → length l ≡ period_bytes f * whole_periods f l
unfolding whole_periods
whole_bytes Narrow l h = omega arith
whole_bytes Wide l h = omega arith

pub has_whole : (f : Form) (l : List ℕ) (k : ℕ) → period_bytes f * k ≤ length l → k ≤ whole_periods f l
unfolding whole_periods
has_whole Narrow l k h = omega arith
has_whole Wide l k h = omega arith

-- so as many bytes as one record has are one record
pub one_whole : (f : Form) (l : List ℕ) → length l ≡ period_bytes f → whole_periods f l ≡ 1
one_whole f l h = (k_whole f l 1 (h ∙ sym (mul-one (period_bytes f)))).0

-- no form's record is shorter than the narrow one
pub few_whole : (f : Form) (l : List ℕ) → period_bytes Narrow * whole_periods f l ≤ length l
unfolding whole_periods
few_whole Narrow l = omega arith
few_whole Wide l = omega arith

-- ---- marks

-- bytes that start with a form's mark are of that form
pub form_marked : (f : Form) (l : List ℕ) → marked l 0 (form_mark f) ≡ true → form_of l ≡ f
unfolding form_of marked
form_marked Narrow l h = rw (same_marked l 0 (form_mark Narrow) (form_mark Wide) h)
form_marked Wide l h = rw h

-- either form's mark is that of the bytes' own form
pub either_own : (l : List ℕ) → either_mark l 0 ≡ marked l 0 (form_mark (form_of l))
unfolding either_mark form_of
either_own l = go (marked l 0 (form_mark Wide)) refl
  where
    go : (t : Bool) → marked l 0 (form_mark Wide) ≡ t → (marked l 0 (form_mark Narrow) || t) ≡ marked l 0 (form_mark (cond t Wide Narrow))
    go true e = or-true (marked l 0 (form_mark Narrow)) ∙ sym e
    go false e = or-false (marked l 0 (form_mark Narrow))

-- they go by the first two bytes
pub either_take : (m : ℕ) (l : List ℕ) → 2 ≤ m → either_mark (take m l) 0 ≡ either_mark l 0
unfolding either_mark marked
either_take m l h = rw (get_or-take m l 0 0 (omega arith), get_or-take m l 1 0 (omega arith))

pub form_take : (m : ℕ) (l : List ℕ) → 2 ≤ m → form_of (take m l) ≡ form_of l
unfolding form_of marked
form_take m l h = rw (get_or-take m l 0 0 (omega arith), get_or-take m l 1 0 (omega arith))

-- bytes that begin with the wide one's mark have it; a byte alone, or none, is no mark
pub starts_wide : (l : List ℕ) → starts_with eqb l wide_mark ≡ marked l 0 wide_mark
unfolding marked
starts_wide [] = refl
starts_wide (b ∷ []) = grind (arith, nat_tests)
starts_wide (b ∷ c ∷ l) = grind (arith, nat_tests)
