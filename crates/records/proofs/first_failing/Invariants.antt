-- The invariant of the loop of `records::first_failing`: the search from k on finds what the whole search finds.
use Rattle.std.proofs.Common.{◌≡◌, ℕ, Bool, ◌-◌, ◌<◌}
use Rattle.records.specs.Refusals.{first_failing}
use Rattle.records.proofs.first_failing.Given as goal

abbrev pub invariant-loop-k : goal.invariant-loop-k
invariant-loop-k g l =
    (ok : ℕ → Bool) → ((k : ℕ) (b : Bool) → k < l.n → goal.F-post g l.passes k b → b ≡ ok k)
    → first_failing ok l.k (l.n - l.k) ≡ first_failing ok 0 l.n
