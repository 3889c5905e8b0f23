-- What the program computes with: a period as two masks.
use Rattle.std.specs.Prelude.{◌^◌, ◌<◌, ◌≡◌}
use Rattle.periods.specs.declared.Attempts.{Attempts}
use Rattle.periods.specs.Limits.{actions}
use Rattle.periods.specs.Periods.{Period}

-- a program's two masks, as a period
abbrev pub period_of : Attempts → Period
period_of a = record { attempts1 = a.one; attempts2 = a.two }

-- a is this period, and no mask has a bit above the last action's
pub record HoldsPeriod (p : Period) (a : Attempts) : Type 0 where
  pub is : period_of a ≡ p
  pub small1 : a.one < 2 ^ actions
  pub small2 : a.two < 2 ^ actions
