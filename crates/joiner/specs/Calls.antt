-- What join leaves in the bytes that it was lent. Document 02, "Join the two parties' logs"; document 01, "Replies that refuse". The logs are lent
-- to be read only, so they are afterwards as they were; the trace is the one buffer beside the reply area.
use Rattle.std.specs.Prelude.{ℕ, List}
use Rattle.std.proofs.lemmas.List.Edits.{sets}
use Rattle.records.specs.Replies.{alone, After, call}
use Rattle.joiner.specs.Joined.{joined_count, joined_trace}
use Rattle.joiner.specs.Refusals.{join_test}

-- "the call gives its record count, and bytes past it keep their values"
unfoldable pub join : (log1 log2 trace reply : List ℕ) → After (List ℕ)
join log1 log2 trace reply =
    call (join_test log1 log2 trace) (alone (joined_count log1 log2)) trace (sets trace 0 (joined_trace log1 log2)) reply
