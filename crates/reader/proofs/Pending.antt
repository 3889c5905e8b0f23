-- The stack of the reader's loop: the codes of the operands that the records so far leave. There are never more of them than records were read, so
-- never more than 64.
use Prim.Native.Nat.{ℕ, suc, ◌+◌, ◌*◌, ◌-◌, ◌≤◌, ◌<◌}
use native.Mathlib.Nat.{sub-zero}
use native.Mathlib.Numerals.{add-one}
use native.Mathlib.Omega.{arith}
use mathlib.Core.Bool.{◌&&◌}
use mathlib.Core.List.{List, [], ◌∷◌, map}
use mathlib.Core.Path.{◌≡◌, refl, sym, ap, ◌∙◌}
use lib.Dec.{eqb}
use lib.ListN.{length, drop, get_or, length-drop, length-map}
use lib.Seq.{drop-drop}
use Rattle.std.specs.Prelude.{Result, Ok, Err}
use Rattle.records.specs.declared.Refusal.{Refusal}
use Rattle.records.specs.Refusals.{require}
use Rattle.records.specs.declared.Fault.TheVariants.{NotOneClause}
use Rattle.reader.specs.declared.Step.{Step}
use Rattle.grammar.specs.Limits.{max_records, record_bytes}
use Rattle.grammar.specs.declared.Sort.TheVariants.{Clause as clause}
use Rattle.grammar.specs.Reader.{Operand, refused, taken, next, read_record, read_records, just_one, test_of}
use Rattle.reader.specs.Codes.{sort_number, code_of, step_of}
use Rattle.reader.proofs.Codes.{Pushed, step-drop, step_refused, step-completed, end_test}

-- what record k does to a stack of these codes
abbrev pub step_at : (l stack : List ℕ) (k : ℕ) → Result Step Refusal
step_at l stack k = step_of l (record_bytes * k) k (get_or stack 1 0) (get_or stack 0 0)

-- after k of n records
pub record StackAfter (l : List ℕ) (n : ℕ) (stack : List ℕ) (k : ℕ) : Type 0 where
  pub operands : List Operand
  pub codes : stack ≡ map code_of operands
  pub bounded : length stack ≤ k
  pub within : k ≤ n
  pub few : n ≤ max_records
  pub same : read_records k (n - k) operands (drop (record_bytes * k) l) ≡ read_records 0 n [] l

pub after_none : (l : List ℕ) (n : ℕ) → n ≤ max_records → StackAfter l n [] 0
after_none l n h = record { operands = []; codes = refl; bounded = omega arith; within = omega arith; few = h; same = rw sub-zero }

module _ {l : List ℕ} {n : ℕ} {stack : List ℕ} {k : ℕ} (r : StackAfter l n stack k) where
  pub few_pending : length stack ≤ max_records
  few_pending = omega (arith, r.bounded, r.within, r.few)

  module _ (h : k < n) where
    abbrev here : List ℕ
    here = drop (record_bytes * k) l

    unrolled : read_records k (n - k) r.operands here
        ≡ next (read_record k r.operands here) (λ st. read_records (suc k) (n - suc k) st (drop record_bytes here))
    unfolding read_records
    unrolled =
        let e : n - k ≡ suc (n - suc k) = omega arith in
        rw e

    -- the two codes on top are those of the two operands on top
    step : {s : Result Step Refusal} → step_at l stack k ≡ s → step_of here 0 k (get_or (map code_of r.operands) 1 0) (get_or (map code_of r.operands) 0 0) ≡ s
    step e = rw (← r.codes, ← step-drop) e

    pub read_refused : (f : Refusal) → step_at l stack k ≡ Err f → read_records 0 n [] l ≡ refused f.fault f.place
    read_refused f e =
        let bad : read_record k r.operands here ≡ refused f.fault f.place = step_refused k r.operands here f (step e) in
        sym r.same ∙ unrolled ∙ ap (λ x. next x (λ st. read_records (suc k) (n - suc k) st (drop record_bytes here))) bad

    pub read_pushed : (s : Step) → step_at l stack k ≡ Ok s → (s.operands ≤ length stack) × StackAfter l n (s.code ∷ drop s.operands stack) (k + 1)
    read_pushed s e =
        let p : Pushed k r.operands here s.operands s.code = step-completed k r.operands here s (step e) in
        let same : read_records (suc k) (n - suc k) p.after (drop record_bytes here) ≡ read_records 0 n [] l =
        sym (ap (λ x. next x (λ st. read_records (suc k) (n - suc k) st (drop record_bytes here))) p.is) ∙ sym unrolled ∙ r.same in
        let at : record_bytes * k + record_bytes ≡ record_bytes * suc k = omega arith in (
          rw (r.codes, length-map) p.enough,
          record {
            operands = p.after;
            codes = sym (p.codes ∙ ap (λ cs. s.code ∷ drop s.operands cs) (sym r.codes));
            bounded = simp length-drop (omega (arith, r.bounded));
            within = omega arith;
            few = r.few;
            same = rw (add-one, ← at, ← drop-drop) same;
          },
        )

  module _ (h : n ≤ k) where
    read_all : read_records 0 n [] l ≡ taken r.operands
    unfolding read_records
    read_all =
        let e : n - k ≡ 0 = omega arith in
        sym r.same ∙ ap (λ m. read_records k m r.operands (drop (record_bytes * k) l)) e

    -- 6, by the codes
    pub ended : test_of (next (read_records 0 n [] l) (just_one n)) ≡ require (eqb (length stack) 1 && eqb (get_or stack 0 0) (sort_number clause)) NotOneClause n
    ended = rw (read_all, end_test n r.operands, r.codes, length-map)
