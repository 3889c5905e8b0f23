-- The state of no periods: its bytes are zeros, it is sound, and so they pass the test.
use Prim.Native.Nat.{ℕ, zero, suc}
use native.Mathlib.Omega.{arith}
use mathlib.Core.Bool.{true}
use mathlib.Core.Path.{◌≡◌, refl, sym}
use lib.ListN.{replicate, length-replicate, replicate-append-replicate}
use Rattle.records.specs.Fields.{bytes}
use Rattle.states.specs.Limits.{head_bytes}
use Rattle.states.specs.States.{State, state_of, state_bytes, fresh_bytes, all_at_most}
use Rattle.states.specs.Refusals.{state_test}
use Rattle.states.specs.Premises.{undecided}
use Rattle.states.proofs.Soundness.{Sound}
use Rattle.states.proofs.States.{read_back, sound_passes}
use Rattle.records.specs.Refusals.{Passed}

-- the state of no periods for an image of n rows
abbrev pub fresh_state : ℕ → State
fresh_state n = record { outcome = 0; blame = 0; periods = 0; decision = 0; values = replicate n 0 }

pub fresh_bytes_lem : (n : ℕ) → fresh_bytes n ≡ state_bytes (fresh_state n)
unfolding state_bytes bytes
fresh_bytes_lem n = sym (replicate-append-replicate head_bytes n 0)

zeros_small : (n : ℕ) → all_at_most 0 (replicate n 0) ≡ true
unfolding all_at_most
zeros_small zero = refl
zeros_small (suc n) = zeros_small n

pub fresh_sound : (n : ℕ) → Sound n (fresh_state n)
fresh_sound n = record { long = length-replicate n 0; head = undecided; values_sound = zeros_small n }

pub fresh_read : (n : ℕ) → state_of (fresh_bytes n) ≡ fresh_state n
fresh_read n = rw (fresh_bytes_lem n) (read_back n (fresh_state n) (fresh_sound n) (omega arith))

pub fresh_passes : (n : ℕ) → state_test n (fresh_bytes n) ≡ Passed
fresh_passes n = rw (fresh_bytes_lem n) (sound_passes n (fresh_state n) (fresh_sound n) (omega arith))
