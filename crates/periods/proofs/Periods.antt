-- The bits of a mask. Document 01, "Records", the period record.
use Prim.Native.Nat.{ℕ, ◌/◌, ◌^◌}
use native.Mathlib.Nat.{zero-div, div_self}
use mathlib.Core.Path.{◌≡◌}
use mathlib.Core.Bool.{true, false}
use lib.Bits.{bit_and, and_mask}
use lib.Dec.{eqb}
use lib.Pow.{pow_pos}
use Rattle.periods.specs.Periods.{bit}

-- a bit is what a shift and a mask of 1 leave, whatever the mask's type
pub bit_shift : (mask a : ℕ) → eqb (bit_and (mask / 2 ^ a) 1) 1 ≡ bit mask a
unfolding bit
bit_shift mask a = rw (and_mask (mask / 2 ^ a) 1)

pub bit_own : (a : ℕ) → bit (2 ^ a) a ≡ true
unfolding bit
bit_own a = rw (div_self (pow_pos a))

pub bit-zero : (a : ℕ) → bit 0 a ≡ false
unfolding bit
bit-zero a = rw zero-div
