-- What the functions of this crate that others call ask of an image and a state, and what one of them gives.
use Rattle.std.specs.Prelude.{ℕ, ◌+◌, ◌≤◌, Bool, true, ◌&&◌, cond, List, ◌≡◌, eqb}
use Rattle.records.specs.Refusals.{Passed, first_failing}
use Rattle.periods.specs.declared.Form.{Form}
use Rattle.periods.specs.Traces.{periods_of, marked_at}
use Rattle.layout.specs.Images.{row_count, image_of}
use Rattle.layout.specs.Refusals.{image_test}
use Rattle.states.specs.Limits.{max_periods}
use Rattle.states.specs.States.{state_of, state_bytes}
use Rattle.states.specs.Refusals.{state_test}
use Rattle.machine.specs.Machine.{after_periods}

-- the state is a sound one of a good image, with room to count n more periods
pub record Ready (image state : List ℕ) (n : ℕ) : Type 0 where
  pub good : image_test image ≡ Passed
  pub sound : state_test (row_count image) state ≡ Passed
  pub room : (state_of state).periods + n ≤ max_periods

-- a state of this outcome takes record k, counted in records of a form, next: always or, where the taking stops, if it is undecided and the record has
-- the form's mark
abbrev pub takes_next : (stops : Bool) (outcome : ℕ) → Form → (trace : List ℕ) (k : ℕ) → Bool
takes_next stops outcome f trace k = cond stops (eqb outcome 0 && marked_at f trace k) true

-- a sound state does so after the records before it
unfoldable pub goes_on : (stops : Bool) (image state : List ℕ) → Form → (trace : List ℕ) (k : ℕ) → Bool
goes_on stops image state f trace k = takes_next stops (after_periods (image_of image) (state_of state) (periods_of f trace k)).outcome f trace k

-- of n records the first r are taken, up to the first that is not to be
pub record Takes (stops : Bool) (image state : List ℕ) (f : Form) (trace : List ℕ) (n : ℕ) (later : List ℕ) (r : ℕ) : Type 0 where
  pub count : r ≡ first_failing (goes_on stops image state f trace) 0 n
  pub leaves : later ≡ state_bytes (after_periods (image_of image) (state_of state) (periods_of f trace r))
