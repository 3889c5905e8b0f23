-- The periods that records can hold, and what is left of any period without the bits above the last action. Document 01,
-- "Records"; document 02, "Thirty-two actions".
use Prim.Native.Nat.{ℕ, zero, suc, ◌+◌, ◌-◌, ◌/◌, ◌%◌, ◌^◌, ◌<◌}
use native.Mathlib.Nat.{mod-lt}
use native.Mathlib.Omega.{arith}
use mathlib.Core.List.{List, ◌++◌}
use mathlib.Core.Path.{◌≡◌, refl}
use lib.Dec.{lit<}
use lib.Pow as Pow
use Rattle.records.specs.Fields.{bytes, field, value}
use Rattle.records.specs.Marks.{marked}
use Rattle.records.specs.Holding.{AllBytes}
use Rattle.records.proofs.Fields.{all_below_cons, all_bytes_bytes, value_bytes}
use Rattle.periods.specs.declared.Form.TheVariants.{Wide}
use Rattle.periods.specs.Forms.{either_mark}
use Rattle.periods.specs.Limits.{actions}
use Rattle.periods.specs.declared.Party.{Party}
use Rattle.periods.specs.declared.Party.TheVariants.{One as party1, Two as party2}
use Rattle.periods.specs.Periods.{Period, bit, tries, period_from}
use Rattle.periods.specs.Traces.{period_at, form_of, form_test, period_in, period_test}
use Rattle.periods.specs.Making.{record_of}
use Rattle.records.specs.Refusals.{Passed}

-- some record holds this period
pub record Recorded (x : Period) : Type 0 where
  pub record_bytes : List ℕ
  pub are_bytes : AllBytes record_bytes
  pub passes : period_test record_bytes ≡ Passed
  pub holds : period_in record_bytes ≡ x

-- the period without the bits above the last action
abbrev pub masked : Period → Period
masked x = record { attempts1 = x.attempts1 % 2 ^ actions; attempts2 = x.attempts2 % 2 ^ actions }

-- ---- it has the same attempts

-- of n low bits, one is what it was
low_bit : (mask n a : ℕ) → a < n → bit (mask % 2 ^ n) a ≡ bit mask a
unfolding bit
low_bit mask n a h =
    let j : ℕ = n - a - 1 in
    let e : n ≡ j + 1 + a = omega arith in
    let i : mask % 2 ^ n / 2 ^ a % 2 ≡ mask / 2 ^ a % 2 = rw (e, Pow.field mask (j + 1) a) (Pow.mod-mod-pow (mask / 2 ^ a) j 1) in
    rw i

pub masked_tries : (x : Period) (p : Party) (a : ℕ) → a < actions → tries (masked x) p a ≡ tries x p a
unfolding tries
masked_tries x party1 a h = low_bit x.attempts1 actions a h
masked_tries x party2 a h = low_bit x.attempts2 actions a h

-- ---- and a record holds it

bytes_before : (w n : ℕ) (l : List ℕ) → AllBytes l → AllBytes (bytes w n ++ l)
unfolding bytes
bytes_before zero n l h = h
bytes_before (suc w) n l h = all_below_cons (mod-lt n (lit< tt)) (bytes_before w (n / 256) l h)

pub masked_recorded : (x : Period) → Recorded (masked x)
unfolding record_of period_test form_test either_mark form_of marked period_at period_from field value bytes
masked_recorded x =
    record {
      record_bytes = record_of Wide x;
      are_bytes = all_below_cons (lit< tt) (all_below_cons (lit< tt) (bytes_before 4 x.attempts1 (bytes 4 x.attempts2) (all_bytes_bytes 4 x.attempts2)));
      passes = refl;
      holds = rw (value_bytes 4 x.attempts1, value_bytes 4 x.attempts2);
    }
