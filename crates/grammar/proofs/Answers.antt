-- What a caller of the reader knows by what its tests find: a contract that passes them spells a clause, with that clause's records, and a
-- refusal is for one of the faults of reading.
use mathlib.Core.Bool.{true, or-true}
use mathlib.Core.List.{List, [], ◌∷◌}
use mathlib.Core.Path.{◌≡◌, refl, ◌∙◌}
use Prim.Native.Nat.{ℕ}
use Rattle.contract.specs.Meaning.{Clause}
use Rattle.records.specs.declared.Fault.{Fault}
use Rattle.records.specs.declared.Fault.TheVariants.{BadLength, NotOneClause}
use Rattle.records.proofs.Refusals.{refused_passed, among, only_for, among_append}
use Rattle.grammar.specs.Reader.{Result, refused, taken, contract_records, read, test_of, read_test}
use Rattle.grammar.specs.Taken.{Contract}
use Rattle.grammar.proofs.Reader.{taken_spells, taken_count}
use Rattle.grammar.proofs.Places.{record_faults, Refusal, at_length, at_record, at_end, refusal}
use Rattle.records.specs.Refusals.{Passed}

pub test_passed : (l : List ℕ) → read_test l ≡ Passed → Contract l (contract_records l)
unfolding read_test
test_passed l h = go (read l) refl
  where
    go : (r : Result Clause) → read l ≡ r → Contract l (contract_records l)
    go (refused f k) e = let h' = rw e at h in absurd (refused_passed h')
    go (taken c) e = record { clause = c; is = e; spells = taken_spells l c e; count = taken_count l c e }

abbrev pub read_faults : List Fault
read_faults = BadLength ∷ NotOneClause ∷ record_faults

pub read_only : (l : List ℕ) → only_for read_faults (read_test l) ≡ true
unfolding read_test
read_only l = go (read l) refl
  where
    among_read : (f : Fault) (k : ℕ) → Refusal l f k → among read_faults f ≡ true
    among_read f k (at_length g e i) = rw (← e)
    among_read f k (at_record w r o) = let own = BadLength ∷ NotOneClause ∷ [] in among_append own record_faults f ∙ rw o (or-true (among own f))
    among_read f k (at_end w st r e i) = rw (← e)

    go : (r : Result Clause) → read l ≡ r → only_for read_faults (test_of r) ≡ true
    go (taken c) e = refl
    go (refused f k) e = among_read f k (refusal l f k e)
