-- The signals of an image's rows, and that each obeys its row.
use Prim.Native.Nat.{ℕ, zero, suc, ◌+◌, ◌<◌}
use native.Mathlib.Nat.{add-zero, zero-add}
use native.Mathlib.Omega.{arith}
use mathlib.Core.Bool.{Bool, true, false}
use mathlib.Core.List.{List, [], ◌∷◌}
use mathlib.Core.Path.{◌≡◌, refl, sym, subst, ◌∙◌}
use borrow.Author.Tests.{ltb-true, ltb-false}
use lib.Dec.{ltb}
use lib.ListN.{length, get_or, get_or-append}
use lib.Seq.{get_or_at}
use Rattle.periods.specs.Periods.{Period}
use Rattle.layout.specs.Rows.{Row, never, initial, attempt, negation, conjunction, disjunction, previous, names_rows}
use Rattle.machine.specs.Machine.{value, new_values}
use Rattle.machine.proofs.Machine.{length-new_values}
use Rattle.machine.proofs.Computing.{value_by}
use Rattle.image.proofs.Signals.{Signal, is_first, row_signal, ◌≐◌, Obeys}

-- the values of the rows in the last period of a history, the latest period first; none where there is no period
unfoldable pub values : List Row → List Period → List Bool
values rows [] = []
values rows (p ∷ h) = new_values (is_first h) p (values rows h) rows (length rows)

abbrev pub signal : List Row → ℕ → Signal
signal rows k p h = get_or (values rows (p ∷ h)) k false

-- every row names lower rows, and in kind 6 rows of the image
abbrev pub NamesRows : List Row → Type 0
NamesRows rows = (k : ℕ) → k < length rows → names_rows k (length rows) (get_or rows k never) ≡ true

-- ---- the values of one period

module _ (first : Bool) (p : Period) (old : List Bool) (rows : List Row) where
  abbrev new : ℕ → List Bool
  new n = new_values first p old rows n

  -- row x has the value that the rows below it give, however many are computed after it
  row_stays : (n x : ℕ) → x < n → get_or (new n) x false ≡ value first p old (new x) (get_or rows x never)
  unfolding new_values
  row_stays zero x i = absurd (omega arith)
  row_stays (suc n) x i = go (ltb x n) refl (row_stays n x)
    where
      last : get_or (new (suc n)) n false ≡ value first p old (new n) (get_or rows n never)
      last = get_or_at (new n) (value first p old (new n) (get_or rows n never)) [] false n (length-new_values first p old rows n)

      go : (t : Bool) → ltb x n ≡ t → (x < n → get_or (new n) x false ≡ value first p old (new x) (get_or rows x never))
          → get_or (new (suc n)) x false ≡ value first p old (new x) (get_or rows x never)
      go true e before =
          let l = ltb-true x n e in
          get_or-append (new n) _ false x (rw (length-new_values first p old rows n) l) ∙ before l
      go false e before =
          let l = ltb-false x n e in
          let q : n ≡ x = omega arith in
          subst (λ (k : ℕ). get_or (new (suc n)) k false ≡ value first p old (new k) (get_or rows k never)) q last

  -- so row k has the same value by the rows below it as by all n
  by_all : (k n : ℕ) → k < n → (r : Row) → names_rows k n r ≡ true → value first p old (new k) r ≡ value first p old (new n) r
  by_all k n i r = value_by first p old (new k) (new n) k n (λ x j. row_stays k x j ∙ sym (row_stays n x (omega arith))) r

-- ---- the rows of an image

module _ (rows : List Row) where
  -- a row's value by the values of this period and of the period before is its value by the signals
  row_value : (r : Row) (p : Period) (h : List Period)
      → value (is_first h) p (values rows h) (values rows (p ∷ h)) r ≡ row_signal (signal rows) r p h
  row_value never p h = refl
  row_value initial p h = refl
  row_value (attempt q a) p h = refl
  row_value (negation x) p h = refl
  row_value (conjunction x y) p h = refl
  row_value (disjunction x y) p h = refl
  row_value (previous x) p [] = refl
  row_value (previous x) p (q ∷ h) = refl

  obeys_row : NamesRows rows → (k : ℕ) → k < length rows → signal rows k ≐ row_signal (signal rows) (get_or rows k never)
  unfolding values
  obeys_row g k i p h =
      row_stays (is_first h) p (values rows h) rows (length rows) k i
      ∙ by_all (is_first h) p (values rows h) rows k (length rows) i (get_or rows k never) (g k i)
      ∙ row_value (get_or rows k never) p h

-- signals obey rows that they obey one by one
each_row : (v : ℕ → Signal) (b : ℕ) (rs : List Row)
    → ((k : ℕ) → k < length rs → v (b + k) ≐ row_signal v (get_or rs k never)) → Obeys v b rs
each_row v b [] o = tt
each_row v b (r ∷ rs) o = (
  rw add-zero at (o 0 (omega arith)),
  each_row v (suc b) rs λ k i. let q : b + suc k ≡ suc b + k = omega arith in rw q at (o (suc k) (omega arith)),
)

pub obeys : (rows : List Row) → NamesRows rows → Obeys (signal rows) 0 rows
obeys rows g = each_row (signal rows) 0 rows λ k i. rw (zero-add k) (obeys_row rows g k i)
