-- The first records of a trace, taken by themselves.
use Prim.Native.Nat.{ℕ, zero, suc, ◌+◌, ◌*◌, ◌≤◌, ◌<◌}
use native.Mathlib.Omega.{arith}
use mathlib.Core.List.{List}
use mathlib.Core.Logic.{⊎_elim}
use mathlib.Core.Path.{◌≡◌, refl, sym, ap, ◌∙◌}
use lib.ListN.{length, take, drop}
use lib.Seq.{length-take-le, get_or-take, take_all, take-take}
use Rattle.records.specs.Fields.{field, value}
use Rattle.records.specs.Marks.{marked}
use Rattle.records.proofs.Cases.{lt_or_le}
use Rattle.records.proofs.Written.{part_is}
use Rattle.periods.specs.declared.Form.{Form}
use Rattle.periods.specs.Forms.{mask_bytes, period_bytes}
use Rattle.periods.specs.Periods.{period_from}
use Rattle.periods.specs.Traces.{whole_periods, first_records, period_at, periods_of, marked_at, form_of, period_records, trace_periods, start_test}
use Rattle.periods.proofs.Forms.{mark_inside, some_marked, no_bytes, records-inside, next_inside, k_whole, has_whole, either_take, form_take}
use Rattle.periods.proofs.Traces.{start_mark, start_whole}
use Rattle.records.specs.Refusals.{Passed}

-- a field that stands in a list's first m bytes
field-take : (m : ℕ) (l : List ℕ) (at w : ℕ) → at + w ≤ m → field (take m l) at w ≡ field l at w
unfolding field
field-take m l at w h = ap value (sym (part_is at w (take m l)) ∙ ap (drop at) (take-take (at + w) m l h) ∙ part_is at w l)

-- ---- as records of one form

module _ (f : Form) (l : List ℕ) (k : ℕ) (h : k ≤ whole_periods f l) where
  abbrev part : List ℕ
  part = first_records f l k

  part_bytes : length part ≡ period_bytes f * k
  unfolding first_records
  part_bytes = length-take-le (period_bytes f * k) l (records-inside f l k h)

  part_marked : (i : ℕ) → i < k → marked_at f part i ≡ marked_at f l i
  unfolding marked_at marked first_records
  part_marked i j =
      let n = next_inside f i k j in
      let m = period_bytes f * k in
      let r = mark_inside f in
      rw (get_or-take m l (period_bytes f * i) 0 (omega arith), get_or-take m l (period_bytes f * i + 1) 0 (omega arith))

  part_at : (i : ℕ) → i < k → period_at f part i ≡ period_at f l i
  unfolding period_at period_from first_records
  part_at i j =
      let n = next_inside f i k j in
      let m = period_bytes f * k in
      let at = period_bytes f * i + 2 in
      rw (field-take m l at (mask_bytes f) (omega arith), field-take m l (at + mask_bytes f) (mask_bytes f) (omega arith))

  part_periods : (j : ℕ) → j ≤ k → periods_of f part j ≡ periods_of f l j
  unfolding periods_of
  part_periods zero i = refl
  part_periods (suc j) i = rw (part_periods j (omega arith), part_at j i)

-- ---- as a trace

module _ (trace : List ℕ) (k : ℕ) (h : k ≤ period_records trace) where
  abbrev form : Form
  form = form_of trace

  abbrev front : List ℕ
  front = first_records form trace k

  -- some records have the trace's form
  first_form : 0 < k → form_of front ≡ form
  unfolding first_records
  first_form s = form_take (period_bytes form * k) trace (some_marked form k s)

  pub first_marked : (i : ℕ) → i < k → marked_at (form_of front) front i ≡ marked_at form trace i
  first_marked i l = rw (first_form (omega arith)) (part_marked form trace k h i l)

  pub first_periods : (j : ℕ) → j ≤ k → trace_periods front j ≡ trace_periods trace j
  unfolding periods_of
  first_periods zero i = refl
  first_periods (suc j) i =
      rw (first_periods j (omega arith), first_form (omega arith), part_at form trace k h j i)

  first_bytes : length front ≡ period_bytes (form_of front) * k
  first_bytes =
      ⊎_elim (λ (s : 0 < k). rw (first_form s) (part_bytes form trace k h))
      (λ (s : k ≤ 0). part_bytes form trace k h ∙ no_bytes form (form_of front) k s) (lt_or_le 0 k)

  pub first_count : period_records front ≡ k
  first_count = (k_whole (form_of front) front k first_bytes).0

  pub first_start : start_test trace ≡ Passed → start_test front ≡ Passed
  unfolding first_records
  first_start t =
      start_whole front k first_bytes
      (λ s. let b = some_marked form k s in
      let i = records-inside form trace k h in
      either_take (period_bytes form * k) trace b ∙ start_mark trace (omega arith) t)

-- a trace that starts with the first k records of another has as many
pub first_long : (t u : List ℕ) (k : ℕ) → k ≤ period_records t → first_records (form_of u) u k ≡ first_records (form_of t) t k → k ≤ period_records u
unfolding first_records
first_long t u k h e =
    ⊎_elim
    (λ (s : 0 < k).
    let m = period_bytes (form_of u) * k in
    let o : form_of u ≡ form_of t =
    sym (form_take m u (some_marked (form_of u) k s)) ∙ ap form_of e ∙ form_take (period_bytes (form_of t) * k) t (some_marked (form_of t) k s) in
    let long : length (take m u) ≡ m = ap length e ∙ part_bytes (form_of t) t k h ∙ rw o in
    has_whole (form_of u) u k
    (⊎_elim (λ (l : length u < m). absurd (let q = sym (ap length (take_all m u (omega arith))) ∙ long in omega arith)) (λ (l : m ≤ length u). l) (lt_or_le (length u) m)))
    (λ (s : k ≤ 0). omega arith) (lt_or_le 0 k)
