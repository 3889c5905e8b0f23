-- What the writer of a window leaves: after each period's rows those of one period more stand there.
use Prim.Native.Nat.{ℕ, zero, suc, ◌+◌, ◌-◌, ◌*◌, ◌≤◌, ◌<◌}
use native.Mathlib.Omega.{arith}
use mathlib.Core.List.{List, [], ◌∷◌, map, map-append}
use mathlib.Core.Path.{◌≡◌, refl, sym, ap, ◌∙◌}
use lib.ListN.{length, length-map}
use lib.Seq.{sets}
use Rattle.layout.specs.Limits.{row_bytes}
use Rattle.layout.specs.Rows.{Row, previous, conjunction, disjunction, kind, row_record}
use Rattle.image.specs.Widths.{never_row, period_rows, ◌⊹◌, after_window}
use Rattle.image.specs.Blocks.{window_rows, last_row}
use Rattle.image.proofs.Sizes.{after_window_lem, length_window, inside_window}
use Rattle.emitter.specs.Rows.{numbers_of, written_rows}
use Rattle.emitter.specs.declared.Block.{Block}
use Rattle.emitter.specs.Blocks.{window_block, window_from}
use Rattle.emitter.specs.Premises.{PeriodRoom, WindowRoom}
use Rattle.emitter.proofs.Writing.{sets_row, length-written, written_none, written_after}
use Rattle.emitter.proofs.Plans.{window_onto}

-- ---- one period

-- three rows, one behind the other
pub written_period : (image one two three : List ℕ) (c g e m : ℕ)
    → one ≡ sets image (row_bytes * c) (row_record (kind (previous m)) m 0)
    → two ≡ sets one (row_bytes * (c + 1)) (row_record (kind (disjunction e c)) e c)
    → three ≡ sets two (row_bytes * (c + 2)) (row_record (kind (conjunction g c)) g c)
    → three ≡ written_rows image c (map numbers_of (window_rows 1 g e m c []))
unfolding window_rows
written_period image one two three c g e m i j k =
    let r = numbers_of (previous m) in
    let s = numbers_of (disjunction e c) in
    let t = numbers_of (conjunction g c) in
    rw (k, j, i, sets_row image c r, sets_row _ (c + 1) s, sets_row _ (c + 2) t)
    (ap (λ l. written_rows l (c + 2) (t ∷ [])) (written_after image c (c + 1) (r ∷ []) (s ∷ []) refl)
    ∙ written_after image c (c + 2) (r ∷ s ∷ []) (t ∷ []) refl)

-- ---- one period more

after_next : (n c : ℕ) → after_window (suc n) c ≡ after_window n c + 3
after_next n c = rw (after_window_lem n c, after_window_lem (suc n) c) (omega arith)

last_next : (n k x c : ℕ) → last_row (suc n) k x c ≡ after_window n c ⊹ k
last_next zero k x c = refl
last_next (suc n) k x c = last_next n k (c ⊹ k) (c ⊹ period_rows)

window_next : (n g e m c : ℕ) (rest : List Row)
    → window_rows (suc n) g e m c rest ≡ window_rows n g e m c (window_rows 1 g (last_row n 1 e c) (last_row n 2 m c) (after_window n c) rest)
unfolding window_rows
window_next zero g e m c rest = refl
window_next (suc n) g e m c rest =
    ap (λ rs. previous m ∷ disjunction e c ∷ conjunction g c ∷ rs) (window_next n g (c ⊹ 1) (c ⊹ 2) (c ⊹ period_rows) rest)

-- ---- the loop

-- the rows of so many later periods of a window are written from row `at` on, j being one more than they are, and this is their block
pub record WindowSoFar (image₀ : List ℕ) (before at window : ℕ) (image : List ℕ) (block : Block) (j : ℕ) : Type 0 where
  pub done : ℕ
  pub count : j ≡ done + 1
  pub few : done ≤ window - 1
  pub rows_are : image ≡ written_rows image₀ at (map numbers_of (window_from done at))
  pub block_is : block ≡ window_block before done at

pub none_yet : (image : List ℕ) (before at window : ℕ) → WindowSoFar image before at window image (window_block before 0 at) 1
unfolding window_rows
none_yet image before at window = record { done = 0; count = refl; few = omega arith; rows_are = sym (written_none image at); block_is = refl }

-- the block with the rows of one period more
abbrev pub next_block : Block → Block
next_block r = record { before = r.before; next = r.next + 3; sat = r.next + 1; one = r.next + 2; two = r.two; code = r.code }

module _ {image₀ : List ℕ} {before at window : ℕ} {image : List ℕ} {block : Block} {j : ℕ} (w : WindowSoFar image₀ before at window image block j) where
  pub same_length : length image ≡ length image₀
  same_length = rw w.rows_are (length-written image₀ at (map numbers_of (window_from w.done at)))

  -- there is room for one period more
  pub period_room : WindowRoom (length image₀) (window - 1) at → j < window → PeriodRoom (length image) block.next (at - 2) block.sat block.one
  period_room r h =
      let d = w.done in
      let c = w.count in
      let n = after_window_lem d at in
      let e = after_window_lem (window - 1) at in
      let f = inside_window d 1 never_row at (omega arith) (omega (arith, r.one_before)) in
      let m = inside_window d 2 (at - 1) at (omega arith) (omega (arith, r.one_before)) in
      rw (same_length, w.block_is)
      record {
        room = omega (arith, r.room);
        few = omega (arith, r.few);
        unmet_lower = omega (arith, r.one_before);
        earlier_lower = f;
        missed_lower = m;
      }

  pub one_more : {later : List ℕ} → j < window
      → later ≡ written_rows image block.next (map numbers_of (window_rows 1 (at - 2) block.sat block.one block.next []))
      → WindowSoFar image₀ before at window later (next_block block) (j + 1)
  one_more {later} h i =
      let d = w.done in
      let c = w.count in
      let next_is : after_window d at + 3 ≡ after_window (suc d) at = sym (after_next d at) in
      let earlier_is : after_window d at + 1 ≡ last_row (suc d) 1 never_row at = rw (last_next d 1 never_row at) (omega arith) in
      let missed_is : after_window d at + 2 ≡ last_row (suc d) 2 (at - 1) at = rw (last_next d 2 (at - 1) at) (omega arith) in
      record {
        done = suc d;
        count = omega arith;
        few = omega arith;
        rows_are =
            i
            ∙ rw (
              w.block_is,
              w.rows_are,
              window_next d (at - 2) never_row (at - 1) at [],
              window_onto d (at - 2) never_row (at - 1) at [] (window_rows 1 (at - 2) (last_row d 1 never_row at) (last_row d 2 (at - 1) at) (after_window d at) []),
              map-append,
            )
            (written_after image₀ at (after_window d at) _ _ (rw (length-map, length_window d) (omega (arith, after_window_lem d at))));
        block_is = rw (w.block_is, next_is, earlier_is, missed_is) refl;
      }

  -- the loop ends with all of them
  pub all_done : window ≤ j → w.done ≡ window - 1
  all_done h =
      let c = w.count in
      let f = w.few in
      omega arith
