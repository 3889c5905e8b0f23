-- What the tests of compile show: when a contract is taken, and which faults they can give. Document 01, "Replies that refuse".
use Prim.Native.Nat.{ℕ, ◌*◌, ◌≤◌}
use native.Mathlib.Omega.{arith}
use mathlib.Core.Bool.{Bool, true, false, false≢true}
use mathlib.Core.List.{List, [], ◌∷◌, ◌++◌}
use mathlib.Core.Logic.{◌⊎◌, inl, inr, ◌↔◌}
use mathlib.Core.Path.{◌≡◌, refl}
use lib.Dec.{leb}
use lib.ListN.{length}
use borrow.Author.Tests.{le-leb, leb-true}
use Rattle.std.specs.Prelude.{Ok, Err}
use Rattle.records.specs.declared.Fault.{Fault}
use Rattle.records.specs.declared.Fault.TheVariants.{ShortBuffer}
use Rattle.records.specs.Refusals.{Test, Passed, fault_number, number_of, require}
use Rattle.records.proofs.Refusals.{first_passed, require-passed, fault_bounds, only_for, only_require, only_append}
use Rattle.contract.specs.Meaning.{Clause}
use Rattle.grammar.specs.Limits.{max_records, max_window}
use Rattle.grammar.specs.Reader.{taken, read, contract_records, contract_windows, read_test}
use Rattle.grammar.specs.Spelling.{Spells}
use Rattle.reader.specs.Codes.{HasRecords}
use Rattle.grammar.proofs.Reader.{spells_taken, taken_count}
use Rattle.grammar.proofs.WindowSum.{spelled_windows, windows-max}
use Rattle.grammar.proofs.Answers.{test_passed, read_faults, read_only}
use Rattle.image.specs.Limits.{buffer_for}
use Rattle.emitter.specs.Premises.{Writes}
use Rattle.compiler.specs.Refusals.{compile_test}

abbrev pub compile_faults : List Fault
compile_faults = read_faults ++ (ShortBuffer ∷ [])

short : (enough : Bool) → (number_of (require enough ShortBuffer 0) ≡ 0) ⊎ (number_of (require enough ShortBuffer 0) ≡ 8)
short true = inl refl
short false = inr refl

module _ (contract buffer : List ℕ) where
  -- a contract that is taken, with a buffer that does not meet 8, passes them
  pub taken_passes : (c : Clause) → read contract ≡ taken c → buffer_for contract ≤ length buffer → compile_test contract buffer ≡ Passed
  unfolding compile_test read_test
  taken_passes c e h = rw (e, le-leb (buffer_for contract) (length buffer) h)

  -- a contract is taken exactly when its records spell a clause: then the tests find nothing, or 8
  pub taken_number : ((number_of (compile_test contract buffer) ≡ 0) ⊎ (number_of (compile_test contract buffer) ≡ 8)) ↔ ((c : Clause) × Spells contract c)
  unfolding compile_test read_test
  taken_number = (there (read_test contract) refl, back)
    where
      there : (t : Test) → read_test contract ≡ t → (number_of (compile_test contract buffer) ≡ 0) ⊎ (number_of (compile_test contract buffer) ≡ 8)
          → (c : Clause) × Spells contract c
      there (Ok _) e n = let k = test_passed contract e in (k.clause, k.spells)
      there (Err r) e (inl n) = absurd (omega (arith, rw e at n, (fault_bounds r.fault).0))
      there (Err r) e (inr n) = let o = rw e at (read_only contract) in let i : fault_number r.fault ≡ 8 = rw e at n in absurd (false≢true (rw i at o))

      back : (c : Clause) × Spells contract c → (number_of (compile_test contract buffer) ≡ 0) ⊎ (number_of (compile_test contract buffer) ≡ 8)
      back s = rw (spells_taken contract s.0 s.1) (short (leb (buffer_for contract) (length buffer)))

  -- and the image of one that passes them may be written
  pub may_write : compile_test contract buffer ≡ Passed → Writes contract (contract_records contract) buffer
  unfolding compile_test
  may_write e =
      let room = leb (buffer_for contract) (length buffer) in
      let t = first_passed (read_test contract) (require room ShortBuffer 0) e in
      record { taken = test_passed contract t.0; room = leb-true (buffer_for contract) (length buffer) (require-passed room ShortBuffer 0 t.1) }

  -- no test gives another fault
  pub compile_only : only_for compile_faults (compile_test contract buffer) ≡ true
  unfolding compile_test
  compile_only =
      let room = leb (buffer_for contract) (length buffer) in
      only_append read_faults (ShortBuffer ∷ []) (read_test contract) (require room ShortBuffer 0) (read_only contract) (only_require (ShortBuffer ∷ []) ShortBuffer refl room 0)

-- the records of a contract that is taken are few and whole, and the sum of its windows is small
pub has_records : (contract : List ℕ) → read_test contract ≡ Passed → HasRecords contract (contract_records contract)
unfolding contract_records
has_records contract e = let k = test_passed contract e in record { whole = omega arith; few = omega (arith, taken_count contract k.clause k.is, k.spells.few_records) }

pub few_records : (contract : List ℕ) → read_test contract ≡ Passed → contract_records contract ≤ max_records
few_records contract e = (has_records contract e).few

pub few_windows : (contract : List ℕ) → read_test contract ≡ Passed → contract_windows contract ≤ max_window * max_records
few_windows contract e =
    let k = test_passed contract e in
    omega (arith, spelled_windows contract k.clause k.spells, windows-max k.clause k.spells.in_range, k.spells.few_records)
