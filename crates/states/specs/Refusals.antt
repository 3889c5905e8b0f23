-- Refusals 10 and 12, and their places. Document 01, "Replies that refuse".
use Rattle.std.specs.Prelude.{ℕ, ◌+◌, ◌-◌, List, eqb, leb, length}
use Rattle.records.specs.declared.Fault.TheVariants.{BadState, FullCount}
use Rattle.records.specs.Refusals.{Test, require, first_of}
use Rattle.states.specs.Limits.{head_bytes, max_periods}
use Rattle.states.specs.States.{state_of, sound}

-- 10: the state's length, for an image of n rows
abbrev pub state_length_test : ℕ → List ℕ → Test
state_length_test n state = require (eqb (length state) (head_bytes + n)) BadState 0

-- 10 in step and run: also whether it is sound
unfoldable pub state_test : ℕ → List ℕ → Test
state_test n state = first_of (state_length_test n state) (require (sound (state_of state)) BadState 0)

-- 12: after so many periods taken, n more records would pass the largest count; at the first record too many
unfoldable pub count_test : (taken n : ℕ) → Test
count_test taken n = require (leb (taken + n) max_periods) FullCount (max_periods - taken)
