-- A duty that both parties own means what `both` of party 1's and party 2's duties means. Document 02, "Duties that both parties own".
use Prim.Native.Nat.{ℕ}
use mathlib.Core.Bool.{Bool, true, false}
use mathlib.Core.List.{List, [], ◌∷◌}
use mathlib.Core.Path.{◌≡◌, refl}
use Rattle.periods.specs.declared.Party.TheVariants.{One as party1, Two as party2}
use Rattle.periods.specs.Periods.{Period, tries}
use Rattle.contract.specs.Meaning.{only, both_parties, duty, literal, both, literal_decision, both_meaning, meaning}

pub joint_both : (a : ℕ) (w : List Period)
    → meaning (literal (duty both_parties) a) w ≡ meaning (both (literal (duty (only party1)) a) (literal (duty (only party2)) a)) w
unfolding meaning
joint_both a [] = refl
joint_both a (x ∷ w) = go (tries x party1 a) (tries x party2 a)
  where
    go : (s t : Bool)
        → literal_decision (duty both_parties) s t ≡ both_meaning (literal_decision (duty (only party1)) s t) (literal_decision (duty (only party2)) t s)
    go true true = refl
    go true false = refl
    go false true = refl
    go false false = refl
