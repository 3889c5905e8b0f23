-- A loop that has taken a trace's first k periods, with older values left in second bits; and what it leaves at its end.
use Prim.Native.Nat.{ℕ, ◌+◌, ◌-◌, ◌≤◌, ◌<◌}
use native.Mathlib.Numerals.{add-one}
use native.Mathlib.Omega.{arith}
use mathlib.Core.Bool.{true, false}
use mathlib.Core.List.{List}
use mathlib.Core.Path.{◌≡◌, refl, sym, ap, ◌∙◌}
use lib.ListN.{length, get_or}
use Rattle.records.specs.Holding.{AllBytes}
use Rattle.records.specs.Refusals.{first_failing}
use Rattle.records.proofs.Searches.{failing_here, failing_end}
use Rattle.periods.specs.declared.Form.{Form}
use Rattle.periods.specs.Traces.{period_at, periods_of}
use Rattle.periods.proofs.Traces.{length-periods_of}
use Rattle.layout.specs.Images.{row_count, image_of}
use Rattle.states.specs.Limits.{head_bytes}
use Rattle.states.specs.States.{State, state_of, state_bytes}
use Rattle.states.proofs.States.{state_bytes-state_of}
use Rattle.machine.specs.Machine.{after_period, after_periods}
use Rattle.machine.specs.Computing.{trimmed}
use Rattle.machine.specs.Premises.{Ready, takes_next, goes_on, Takes}
use Rattle.machine.proofs.Machine.{after_snoc}
use Rattle.machine.proofs.Trimming.{trimmed_plain, trimmed_at}
use Rattle.machine.proofs.Steps.{ready_long, later_read, later_ready}

-- the bytes stand for what the first k periods leave of the state
pub record Took (image state : List ℕ) (f : Form) (trace : List ℕ) (k : ℕ) (l : List ℕ) : Type 0 where
  pub same_length : length l ≡ length state
  pub stands : trimmed l ≡ state_bytes (after_periods (image_of image) (state_of state) (periods_of f trace k))

module _ (image state : List ℕ) (f : Form) (trace : List ℕ) (n : ℕ) (h : Ready image state n) where
  abbrev reached : ℕ → State
  reached k = after_periods (image_of image) (state_of state) (periods_of f trace k)

  pub took_none : AllBytes state → Took image state f trace 0 state
  unfolding periods_of after_periods
  took_none bytes =
      record {
        same_length = refl;
        stands = trimmed_plain (row_count image) state h.sound ∙ sym (state_bytes-state_of state bytes (omega (arith, ready_long image state n h)));
      }

  module _ (k : ℕ) (l : List ℕ) (t : Took image state f trace k l) where
    pub took_head : head_bytes ≤ length l
    took_head = omega (arith, t.same_length, ready_long image state n h)

    -- the next period can be taken
    pub took_working : k < n → Ready image (trimmed l) 1
    took_working i =
        let e : length (periods_of f trace k) ≡ k = length-periods_of f trace k in
        let g = later_ready image state n h (periods_of f trace k) (omega arith) in
        rw t.stands record { good = g.good; sound = g.sound; room = omega (arith, g.room) }

    pub took_next : k < n → (later : List ℕ) → length later ≡ length l
        → trimmed later ≡ state_bytes (after_period (image_of image) (period_at f trace k) (state_of (trimmed l))) → Took image state f trace (k + 1) later
    unfolding periods_of
    took_next i later s a =
        let w = periods_of f trace k in
        let e : length w ≡ k = length-periods_of f trace k in
        record {
          same_length = s ∙ t.same_length;
          stands = a
              ∙ rw (t.stands, later_read image state n h w (omega arith), add-one k)
              (ap state_bytes (sym (after_snoc (image_of image) (state_of state) w (period_at f trace k))));
        }

    -- its first byte is the outcome
    took_outcome : get_or l 0 0 ≡ (reached k).outcome
    unfolding state_bytes
    took_outcome = sym (trimmed_at l took_head 0 (omega arith)) ∙ ap (λ (b : List ℕ). get_or b 0 0) t.stands

    -- so whether record k is taken can be told from it
    pub takes_next_lem : takes_next true (get_or l 0 0) f trace k ≡ goes_on true image state f trace k
    unfolding goes_on
    takes_next_lem = rw took_outcome

    -- the first k records are those that are taken, where the search from record k on finds what the whole one finds
    module _ (q : first_failing (goes_on true image state f trace) k (n - k) ≡ first_failing (goes_on true image state f trace) 0 n) where
      pub took_here : k < n → goes_on true image state f trace k ≡ false → Takes true image state f trace n (trimmed l) k
      took_here i g = record { count = sym (failing_here (goes_on true image state f trace) k n i g) ∙ q; leaves = t.stands }

      pub took_all : n ≤ k → k ≤ n → Takes true image state f trace n (trimmed l) n
      took_all i j =
          let e : k ≡ n = omega arith in
          let r : Takes true image state f trace n (trimmed l) k =
          record { count = sym (failing_end (goes_on true image state f trace) k n i) ∙ q; leaves = t.stands } in
          rw e at r
