-- Records made of periods hold them, and the wide trace made of a list of periods passes and holds that list. Document 01, "Records"; document 02,
-- "Thirty-two actions".
use Prim.Native.Nat.{ℕ, zero, suc, ◌+◌, ◌*◌, ◌%◌, ◌^◌, ◌≤◌, ◌<◌}
use native.Mathlib.Nat.{add_assoc, mul-zero, mod-eq_of_lt}
use native.Mathlib.Omega.{arith}
use mathlib.Core.Bool.{true}
use mathlib.Core.List.{List, [], ◌∷◌, ◌++◌, append_assoc, append-nil}
use mathlib.Core.Logic.{⊎_elim}
use mathlib.Core.Path.{◌≡◌, refl, sym, ap, ◌∙◌}
use lib.ListN.{length, drop, length-append}
use lib.Seq.{take_at, drop_at, drop-drop}
use Rattle.records.specs.Fields.{bytes, field}
use Rattle.records.specs.Marks.{marked}
use Rattle.records.proofs.Cases.{lt_or_le}
use Rattle.records.proofs.Fields.{length-bytes, field-drop}
use Rattle.records.proofs.Marks.{marked-drop}
use Rattle.records.proofs.Written.{field_spelled}
use Rattle.periods.specs.declared.Form.{Form}
use Rattle.periods.specs.declared.Form.TheVariants.{Narrow, Wide}
use Rattle.periods.specs.Forms.{form_mark, mask_bytes, period_bytes}
use Rattle.periods.specs.Periods.{Period, period_from}
use Rattle.periods.specs.Traces.{record_at, period_at, periods_of, marked_at, form_of, period_records, trace_periods, start_test, trace_test, period_in, period_test}
use Rattle.periods.specs.Making.{record_of, records_of}
use Rattle.periods.proofs.Forms.{no_bytes, k_whole, form_marked, either_own}
use Rattle.periods.proofs.Traces.{start_whole, trace_passes, record_passes}
use Rattle.records.specs.Refusals.{Passed}

-- a period's masks have room in a form's record
pub record Fits (f : Form) (x : Period) : Type 0 where
  pub fits1 : x.attempts1 < 256 ^ mask_bytes f
  pub fits2 : x.attempts2 < 256 ^ mask_bytes f

abbrev pub AllFit : Form → List Period → Type 0
AllFit f [] = Unit
AllFit f (x ∷ w) = Fits f x × AllFit f w

pub all_fit_more : (f : Form) (w : List Period) (x : Period) → AllFit f w → Fits f x → AllFit f (w ++ (x ∷ []))
all_fit_more f [] x a h = (h, tt)
all_fit_more f (y ∷ w) x a h = (a.0, all_fit_more f w x a.1 h)

-- ---- a record that was made of a period

module _ (f : Form) (x : Period) where
  abbrev made : List ℕ
  made = record_of f x

  mark_two : (g : Form) → length (form_mark g) ≡ 2
  mark_two Narrow = refl
  mark_two Wide = refl

  pub length-record_of : length made ≡ period_bytes f
  unfolding record_of
  length-record_of = simp (length-append, length-bytes, mark_two f) (omega arith)

  module _ (rest : List ℕ) where
    pub made_marked : marked (made ++ rest) 0 (form_mark f) ≡ true
    unfolding record_of marked
    made_marked = go f
      where
        go : (g : Form) → marked ((form_mark g ++ bytes (mask_bytes f) x.attempts1 ++ bytes (mask_bytes f) x.attempts2) ++ rest) 0 (form_mark g) ≡ true
        go Narrow = refl
        go Wide = refl

    made_first : field (made ++ rest) 2 (mask_bytes f) ≡ x.attempts1 % 256 ^ mask_bytes f
    unfolding record_of
    made_first =
        let one = bytes (mask_bytes f) x.attempts1 in
        let two = bytes (mask_bytes f) x.attempts2 in
        rw (append_assoc (form_mark f ++ one) two rest, append_assoc (form_mark f) one (two ++ rest))
        (field_spelled (form_mark f) (mask_bytes f) x.attempts1 (two ++ rest) 2 (mark_two f))

    made_second : field (made ++ rest) (2 + mask_bytes f) (mask_bytes f) ≡ x.attempts2 % 256 ^ mask_bytes f
    unfolding record_of
    made_second =
        let one = bytes (mask_bytes f) x.attempts1 in
        let two = bytes (mask_bytes f) x.attempts2 in
        rw (append_assoc (form_mark f ++ one) two rest)
        (field_spelled (form_mark f ++ one) (mask_bytes f) x.attempts2 rest (2 + mask_bytes f) (simp (length-append, length-bytes, mark_two f)))

    pub made_at : Fits f x → period_at f (made ++ rest) 0 ≡ x
    unfolding period_at period_from
    made_at h = rw (mul-zero, made_first, made_second, mod-eq_of_lt h.fits1, mod-eq_of_lt h.fits2)

  -- by itself it is a good one, and holds its period
  pub made_passes : period_test made ≡ Passed
  made_passes = record_passes f made length-record_of (rw append-nil at (made_marked []))

  pub made_in : Fits f x → period_in made ≡ x
  made_in h = rw (form_marked f made (rw append-nil at (made_marked []))) (rw append-nil at (made_at [] h))

-- record k + 1, behind one that is as long as the form's
module _ (f : Form) (r rest : List ℕ) (long : length r ≡ period_bytes f) (k : ℕ) where
  next_start : period_bytes f * suc k ≡ period_bytes f + period_bytes f * k
  next_start = go f
    where
      go : (g : Form) → period_bytes g * suc k ≡ period_bytes g + period_bytes g * k
      go Narrow = omega arith
      go Wide = omega arith

  behind : drop (period_bytes f) (r ++ rest) ≡ rest
  behind = drop_at r rest (period_bytes f) long

  shifted_at : period_at f (r ++ rest) (suc k) ≡ period_at f rest k
  unfolding period_at period_from
  shifted_at =
      let start = period_bytes f * k in
      rw (
        next_start,
        add_assoc (period_bytes f) start 2,
        add_assoc (period_bytes f) (start + 2) (mask_bytes f),
        field-drop (r ++ rest) (period_bytes f) (start + 2) (mask_bytes f),
        field-drop (r ++ rest) (period_bytes f) (start + 2 + mask_bytes f) (mask_bytes f),
        behind,
      )

  shifted_marked : marked_at f (r ++ rest) (suc k) ≡ marked_at f rest k
  unfolding marked_at
  shifted_marked =
      rw next_start
      (marked-drop (r ++ rest) (period_bytes f + period_bytes f * k) (form_mark f)
      ∙ rw (← drop-drop (period_bytes f * k) (period_bytes f) (r ++ rest), behind) (sym (marked-drop rest (period_bytes f * k) (form_mark f))))

-- so the periods of such bytes are the first record's and those of the rest
periods_behind : (f : Form) (r rest : List ℕ) → length r ≡ period_bytes f → (n : ℕ)
    → periods_of f (r ++ rest) (suc n) ≡ period_at f (r ++ rest) 0 ∷ periods_of f rest n
unfolding periods_of
periods_behind f r rest long zero = refl
periods_behind f r rest long (suc n) =
    ap (λ (w : List Period). w ++ (period_at f (r ++ rest) (suc n) ∷ [])) (periods_behind f r rest long n)
    ∙ ap (λ (x : Period). period_at f (r ++ rest) 0 ∷ (periods_of f rest n ++ (x ∷ []))) (shifted_at f r rest long n)

-- ---- the records of a list of periods

module _ (f : Form) where
  pub length-records_of : (w : List Period) → length (records_of f w) ≡ period_bytes f * length w
  unfolding records_of
  length-records_of [] = sym (mul-zero (period_bytes f))
  length-records_of (x ∷ w) =
      simp (length-append, length-record_of f x, length-records_of w) (sym (next_start f (record_of f x) [] (length-record_of f x) (length w)))

  pub records_of-append : (v w : List Period) → records_of f (v ++ w) ≡ records_of f v ++ records_of f w
  unfolding records_of
  records_of-append [] w = refl
  records_of-append (x ∷ v) w = rw (records_of-append v w) (sym (append_assoc (record_of f x) (records_of f v) (records_of f w)))

  -- the record after those of the periods a
  pub records_record : (a : List Period) (x : Period) (b : List Period) → record_at f (records_of f (a ++ x ∷ b)) (length a) ≡ record_of f x
  unfolding record_at records_of
  records_record a x b =
      rw (records_of-append a (x ∷ b), drop_at (records_of f a) (record_of f x ++ records_of f b) (period_bytes f * length a) (length-records_of a))
      (take_at (record_of f x) (records_of f b) (period_bytes f) (length-record_of f x))

  records-marked : (w : List Period) (k : ℕ) → k < length w → marked_at f (records_of f w) k ≡ true
  unfolding records_of marked_at
  records-marked [] k h = absurd (omega arith)
  records-marked (x ∷ w) zero h = rw mul-zero (made_marked f x (records_of f w))
  records-marked (x ∷ w) (suc k) h =
      shifted_marked f (record_of f x) (records_of f w) (length-record_of f x) k ∙ records-marked w k (omega arith)

  records_periods : (w : List Period) → AllFit f w → periods_of f (records_of f w) (length w) ≡ w
  unfolding records_of periods_of
  records_periods [] a = refl
  records_periods (x ∷ w) a =
      periods_behind f (record_of f x) (records_of f w) (length-record_of f x) (length w)
      ∙ rw (made_at f x (records_of f w) a.0, records_periods w a.1)

-- ---- the wide trace of a list of periods

module _ (w : List Period) where
  abbrev wide : List ℕ
  wide = records_of Wide w

  wide_form : 0 < length w → form_of wide ≡ Wide
  unfolding marked_at
  wide_form s = form_marked Wide wide (rw mul-zero at (records-marked Wide w 0 s))

  pub wide_marked : (k : ℕ) → k < length w → marked_at (form_of wide) wide k ≡ true
  wide_marked k h = rw (wide_form (omega arith)) (records-marked Wide w k h)

  wide_bytes : length wide ≡ period_bytes (form_of wide) * length w
  wide_bytes =
      let e = length-records_of Wide w in
      ⊎_elim (λ (s : 0 < length w). rw (wide_form s) e) (λ (s : length w ≤ 0). e ∙ no_bytes Wide (form_of wide) (length w) s) (lt_or_le 0 (length w))

  pub wide_count : period_records wide ≡ length w
  wide_count = (k_whole (form_of wide) wide (length w) wide_bytes).0

  pub wide_starts : start_test wide ≡ Passed
  unfolding marked_at
  wide_starts = start_whole wide (length w) wide_bytes (λ s. either_own wide ∙ rw mul-zero at (wide_marked 0 s))

  pub wide_passes : trace_test wide ≡ Passed
  wide_passes = trace_passes wide (k_whole (form_of wide) wide (length w) wide_bytes).1 (λ k h. wide_marked k (rw wide_count at h))

  pub wide_periods : AllFit Wide w → trace_periods wide (length w) ≡ w
  unfolding periods_of
  wide_periods a =
      ⊎_elim (λ (s : 0 < length w). rw (wide_form s) (records_periods Wide w a)) (λ (s : length w ≤ 0). none w (omega arith)) (lt_or_le 0 (length w))
    where
      none : (v : List Period) → length v ≡ 0 → trace_periods wide (length v) ≡ v
      none [] e = refl
      none (x ∷ v) e = absurd (omega arith)
