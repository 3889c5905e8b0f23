-- A clause's block behaves when its signals say in every period what the clause says on the list that has been read.
use mathlib.Core.List.{List}
use Rattle.periods.specs.Periods.{Period}
use Rattle.contract.specs.Meaning.{Clause}
use Rattle.image.proofs.Signals.{Signal, at, Says}
use Rattle.image.proofs.Threads.{thread}
use Rattle.image.proofs.Reports.{said_by}

pub record Behaves (c : Clause) (S K sat one two : Signal) : Type 0 where
  pub says : (h : List Period) → Says (at sat h) (at one h) (at two h) (said_by c (thread S K h))
