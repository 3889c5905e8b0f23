-- Laws of the input's two parts.
use Prim.Native.Nat.{ℕ, ◌*◌, ◌≤◌}
use native.Mathlib.Omega.{arith}
use mathlib.Core.Bool.{Bool, true, false, cond}
use mathlib.Core.List.{List}
use mathlib.Core.Path.{◌≡◌, sym, ◌∙◌}
use lib.Dec.{eqb}
use lib.ListN.{length}
use borrow.Author.Tests.{eq-eqb, ne_eqb}
use Rattle.records.specs.Refusals.{first_failing}
use Rattle.records.proofs.Searches.{failing_max}
use Rattle.periods.specs.declared.Form.TheVariants.{Narrow}
use Rattle.periods.specs.Forms.{period_bytes}
use Rattle.periods.specs.Traces.{whole_periods}
use Rattle.periods.proofs.Forms.{few_whole}
use Rattle.report.specs.Split.{unmarked_six, first_period, contract_length}

module _ (input : List ℕ) where
  -- the first with either mark is one of them, or past the last
  pub first_within : first_period input ≤ whole_periods Narrow input
  unfolding first_period
  first_within = omega (arith, failing_max (unmarked_six input) 0 (whole_periods Narrow input))

  -- n whole six bytes, the first of which with either mark is number k, or k is n where none has it
  module _ (n k : ℕ) (e : n ≡ whole_periods Narrow input) (f : k ≡ first_failing (unmarked_six input) 0 n) where
    first_is : first_period input ≡ k
    unfolding first_period
    first_is = rw (← e, ← f)

    pub found_within : k ≤ n
    found_within = omega (arith, first_is, first_within)

    -- "Without such a record all is contract."
    pub none_found : k ≡ n → length input ≡ contract_length input
    unfolding contract_length
    none_found h = rw (eq-eqb (first_period input) (whole_periods Narrow input) (first_is ∙ h ∙ e))

    pub one_found : ¬ (k ≡ n) → period_bytes Narrow * k ≡ contract_length input
    unfolding contract_length
    one_found h = rw (ne_eqb (first_period input) (whole_periods Narrow input) (λ i. h (sym first_is ∙ i ∙ sym e)), first_is)

  -- the contract is within the input
  pub contract_within : contract_length input ≤ length input
  unfolding contract_length
  contract_within = go (eqb (first_period input) (whole_periods Narrow input))
    where
      go : (t : Bool) → cond t (length input) (period_bytes Narrow * first_period input) ≤ length input
      go true = omega arith
      go false = omega (arith, few_whole Narrow input, first_within)
