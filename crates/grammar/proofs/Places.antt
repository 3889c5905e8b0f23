-- The place of a refusal: the first record at fault, the record count where the end is at fault, and 0 where the length is.
use Prim.Native.Nat.{ℕ, zero, suc, ◌+◌, ◌*◌, ◌-◌, ◌≤◌, ◌<◌}
use native.Mathlib.Nat.{le_of_suc-le-suc, not-suc-le-zero, le_refl}
use native.Mathlib.Omega.{arith}
use mathlib.Core.Bool.{Bool, true, false, not, false≢true}
use mathlib.Core.List.{List, [], ◌∷◌}
use mathlib.Core.Option.{Option, none, some}
use mathlib.Core.Path.{◌≡◌, refl, sym, ◌∙◌}
use lib.Dec.{lit<}
use lib.ListN.{length, take, drop, get_or}
use lib.Seq.{get_or-take, length-take-le}
use Rattle.records.specs.Marks.{contract_mark, marked}
use Rattle.records.proofs.Written.{drop-take}
use Rattle.records.specs.declared.Fault.{Fault}
use Rattle.records.specs.Refusals.{require}
use Rattle.records.proofs.Refusals.{among}
use Rattle.records.specs.declared.Fault.TheVariants.{BadLength, BadMark, UnknownKind, BadField, BadOperands, NotOneClause, EmptyList}
use Rattle.grammar.specs.Limits.{max_records, record_bytes}
use Rattle.grammar.specs.Table.{clause, expression, kind_of, line}
use Rattle.grammar.specs.Trees.{good_fields, node}
use Rattle.grammar.specs.Reader.{Result, refused, taken, next, provided, demand, kind_at, fields_at, Operand, operand, operands_of, holds_empty_under, read_record, read_records, just_one, contract_records, good_contract_length, read}
use Rattle.grammar.proofs.Nodes.{refused_taken, followed}
use Rattle.grammar.proofs.Reader.{WholeRecords, good_length}

-- ---- what is said of a place

-- the faults of one record
abbrev pub record_faults : List Fault
record_faults = BadMark ∷ UnknownKind ∷ BadField ∷ BadOperands ∷ EmptyList ∷ []

-- reading the bytes meets no fault of a record
pub record Faultless (l : List ℕ) : Type 0 where
  pub none_met : (f : Fault) (k : ℕ) → read l ≡ refused f k → among record_faults f ≡ false

-- "the first record at fault": the fault is met where the bytes end with record k, and no fault of a record where they end before it
pub record FirstFault (l : List ℕ) (f : Fault) (k : ℕ) : Type 0 where
  pub here : read (take (record_bytes * suc k) l) ≡ refused f k
  pub before : (n : ℕ) → n ≤ k → Faultless (take (record_bytes * n) l)

-- ---- one record is refused at its own place, for a fault of a record

abbrev AtRecord : {A : Type 0} → ℕ → Result A → Type 0
AtRecord k (refused f j) = (j ≡ k) × (among record_faults f ≡ true)
AtRecord k (taken x) = Unit {0}

require_at : {A : Type 0} (t : Bool) (f : Fault) (k : ℕ) (r : Result A) → among record_faults f ≡ true → AtRecord k r → AtRecord k (provided (require t f k) r)
require_at true f k r h a = a
require_at false f k r h a = (refl, h)

demand_at : {A B : Type 0} (o : Option A) (f : Fault) (k : ℕ) (g : A → Result B) → among record_faults f ≡ true → ((x : A) → AtRecord k (g x))
    → AtRecord k (demand o f k g)
demand_at none f k g h a = (refl, h)
demand_at (some x) f k g h a = a x

record_at_lem : (k : ℕ) (st : List Operand) (l : List ℕ) → AtRecord k (read_record k st l)
unfolding read_record
record_at_lem k st l =
    require_at (marked l 0 contract_mark) BadMark k _ refl
    (demand_at (kind_of (kind_at l 0)) UnknownKind k _ refl
    (λ kind. require_at (good_fields (line kind) (fields_at l 0)) BadField k _ refl
    (demand_at (operands_of (line kind).operands st) BadOperands k _ refl
    (λ os. require_at (not (holds_empty_under (line kind).completes (node kind (fields_at l 0) os.trees))) EmptyList k _ refl tt))))

-- ---- the first record that is refused

-- of the n records from k on, `count` are passed and the next one is refused
record Stopped (k n : ℕ) (st : List Operand) (l : List ℕ) (f : Fault) (j : ℕ) : Type 0 where
  count : ℕ
  place : j ≡ k + count
  within : count < n
  of_record : among record_faults f ≡ true
  stack : List Operand
  before : read_records k count st l ≡ taken stack
  here : read_records k (suc count) st l ≡ refused f j

-- what is refused is refused at once, or later
refused_next : {A B C : Type 0} (r : Result A) {g : A → Result B} {f : Fault} {j : ℕ} → next r g ≡ refused f j → (r ≡ refused f j → C)
    → ((x : A) → r ≡ taken x → g x ≡ refused f j → C) → C
refused_next (refused d i) h now later = now (cc)
refused_next (taken x) h now later = later x refl h

stopped : (k n : ℕ) (st : List Operand) (l : List ℕ) (f : Fault) (j : ℕ) → read_records k n st l ≡ refused f j → Stopped k n st l f j
unfolding read_records
stopped k zero st l f j h = absurd (refused_taken (sym h))
stopped k (suc n) st l f j h =
    refused_next (read_record k st l) h
    (λ e.
    let a = rw e at (record_at_lem k st l) in
    record { count = 0; place = omega (arith, a.0); within = omega arith; of_record = a.1; stack = st; before = refl; here = rw e })
    (λ st' e h₂.
    let s = stopped (suc k) n st' (drop record_bytes l) f j h₂ in
    record {
      count = suc s.count;
      place = omega (arith, s.place);
      within = omega (arith, s.within);
      of_record = s.of_record;
      stack = s.stack;
      before = rw e s.before;
      here = rw e s.here;
    })

-- where n records are passed, so are fewer
fewer_passed : (k m n : ℕ) (st : List Operand) (l : List ℕ) (st' : List Operand) → m ≤ n → read_records k n st l ≡ taken st'
    → (st'' : List Operand) × (read_records k m st l ≡ taken st'')
unfolding read_records
fewer_passed k zero n st l st' b h = (st, refl)
fewer_passed k (suc m) zero st l st' b h = absurd (not-suc-le-zero b)
fewer_passed k (suc m) (suc n) st l st' b h = followed (read_record k st l) h λ st₂ e h₂.
    let t = fewer_passed (suc k) m n st₂ (drop record_bytes l) st' (le_of_suc-le-suc b) h₂ in (t.0, rw e t.1)

-- where some records are refused, so are more
still_refused : (k m n : ℕ) (st : List Operand) (l : List ℕ) (f : Fault) (j : ℕ) → m ≤ n → read_records k m st l ≡ refused f j
    → read_records k n st l ≡ refused f j
unfolding read_records
still_refused k zero n st l f j b h = absurd (refused_taken (sym h))
still_refused k (suc m) zero st l f j b h = absurd (not-suc-le-zero b)
still_refused k (suc m) (suc n) st l f j b h =
    refused_next (read_record k st l) h (λ e. rw e)
    (λ st' e h₂. rw e (still_refused (suc k) m n st' (drop record_bytes l) f j (le_of_suc-le-suc b) h₂))

-- ---- a beginning of the bytes

record_take : (k : ℕ) (st : List Operand) (n : ℕ) (l : List ℕ) → record_bytes ≤ n → read_record k st (take n l) ≡ read_record k st l
unfolding read_record marked
record_take k st n l h =
    let at : (i : ℕ) → i < record_bytes → get_or (take n l) i 0 ≡ get_or l i 0 = λ i b. get_or-take n l i 0 (omega arith) in
    rw (at 0 (lit< tt), at 1 (lit< tt), at 2 (lit< tt), at 3 (lit< tt), at 4 (lit< tt), at 5 (lit< tt))

next_same : {A B : Type 0} (r : Result A) (f g : A → Result B) → ((x : A) → f x ≡ g x) → next r f ≡ next r g
next_same (refused d k) f g h = refl
next_same (taken x) f g h = h x

records-take : (k n m : ℕ) (st : List Operand) (l : List ℕ) → n ≤ m → read_records k n st (take (record_bytes * m) l) ≡ read_records k n st l
unfolding read_records
records-take k zero m st l h = refl
records-take k (suc n) zero st l h = absurd (not-suc-le-zero h)
records-take k (suc n) (suc m) st l h =
    let e : record_bytes * suc m - record_bytes ≡ record_bytes * m = omega arith in
    rw (record_take k st (record_bytes * suc m) l (omega arith), drop-take, e)
    (next_same (read_record k st l) _ _ (λ st'. records-take (suc k) n m st' (drop record_bytes l) (le_of_suc-le-suc h)))

module _ (l : List ℕ) (n : ℕ) (h : n ≤ contract_records l) where
  length_front : length (take (record_bytes * n) l) ≡ record_bytes * n
  unfolding contract_records
  length_front = length-take-le (record_bytes * n) l (omega arith)

  count_front : contract_records (take (record_bytes * n) l) ≡ n
  unfolding contract_records
  count_front = rw length_front (omega arith)

  whole_front : WholeRecords l → 1 ≤ n → WholeRecords (take (record_bytes * n) l)
  whole_front w m =
      record { some_records = rw count_front m; few_records = rw count_front (omega (arith, w.few_records)); whole = rw count_front length_front }

  read_front : WholeRecords l → 1 ≤ n → read (take (record_bytes * n) l) ≡ next (read_records 0 n [] l) (just_one n)
  unfolding read
  read_front w m =
      rw ((good_length (take (record_bytes * n) l)).1 (whole_front w m), count_front, records-take 0 n n [] l (le_refl n))

-- ---- no fault of a record

end_refused : (n : ℕ) (st : List Operand) (f : Fault) (k : ℕ) → just_one n st ≡ refused f k → (NotOneClause ≡ f) × (n ≡ k)
end_refused n [] f k h = (cc, cc)
end_refused n (operand clause d ∷ []) f k h = (cc, cc)
end_refused n (operand expression e ∷ []) f k h = (cc, cc)
end_refused n (operand clause d ∷ p ∷ st) f k h = (cc, cc)
end_refused n (operand expression e ∷ p ∷ st) f k h = (cc, cc)

-- how a contract is refused
pub data Refusal (l : List ℕ) (f : Fault) (k : ℕ) : Type 0 where
  at_length : good_contract_length l ≡ false → BadLength ≡ f → 0 ≡ k → Refusal l f k
  at_record : WholeRecords l → read_records 0 (contract_records l) [] l ≡ refused f k → among record_faults f ≡ true → Refusal l f k
  at_end : WholeRecords l → (st : List Operand) → read_records 0 (contract_records l) [] l ≡ taken st → NotOneClause ≡ f → contract_records l ≡ k → Refusal l f k

pub refusal : (l : List ℕ) (f : Fault) (k : ℕ) → read l ≡ refused f k → Refusal l f k
unfolding read
refusal l f k h = go (good_contract_length l) refl
  where
    n : ℕ
    n = contract_records l

    go : (t : Bool) → good_contract_length l ≡ t → Refusal l f k
    go false e = let h' = rw e at h in at_length e (cc) (cc)
    go true e =
        refused_next (read_records 0 n [] l) (rw e at h) (λ r. at_record ((good_length l).0 e) r (stopped 0 n [] l f k r).of_record)
        (λ st r h₂. let d = end_refused n st f k h₂ in at_end ((good_length l).0 e) st r d.0 d.1)

faultless : (l : List ℕ) (st : List Operand) → read_records 0 (contract_records l) [] l ≡ taken st → Faultless l
faultless l st h = record { none_met = λ f k e. go f k (refusal l f k e) }
  where
    go : (f : Fault) (k : ℕ) → Refusal l f k → among record_faults f ≡ false
    go f k (at_length g e i) = rw (← e)
    go f k (at_record w r o) = absurd (refused_taken (sym r ∙ h))
    go f k (at_end w st' g e i) = rw (← e)

-- where the first m records are passed, no beginning of them meets a fault of a record
faultless_fronts : (l : List ℕ) (m : ℕ) (st : List Operand) → m ≤ contract_records l → read_records 0 m [] l ≡ taken st
    → (n : ℕ) → n ≤ m → Faultless (take (record_bytes * n) l)
faultless_fronts l m st c h n b =
    let t = fewer_passed 0 n m [] l st b h in
    faultless (take (record_bytes * n) l) t.0 (rw (count_front l n (omega arith), records-take 0 n n [] l (le_refl n)) t.1)

-- ---- the places

pub first_fault : (l : List ℕ) (f : Fault) (k : ℕ) → read l ≡ refused f k → among record_faults f ≡ true → FirstFault l f k
first_fault l f k h o = go (refusal l f k h)
  where
    go : Refusal l f k → FirstFault l f k
    go (at_length g e i) = absurd (false≢true (rw (← e) at o))
    go (at_end w st g e i) = absurd (false≢true (rw (← e) at o))
    go (at_record w r o) =
        let s = stopped 0 (contract_records l) [] l f k r in
        let p : s.count ≡ k = omega (arith, s.place) in
        let c : suc k ≤ contract_records l = omega (arith, s.within) in
        let here : read_records 0 (suc k) [] l ≡ refused f k = rw p at s.here in
        record {
          here = rw (read_front l (suc k) c w (omega arith), here);
          before = faultless_fronts l k s.stack (omega arith) (rw p at s.before);
        }

-- and a fault that is met where the bytes end with record k is met whatever whole records come after it, as far as there are not too many
pub fault_stays : (l : List ℕ) (f : Fault) (k : ℕ) → good_contract_length l ≡ true → k < contract_records l → among record_faults f ≡ true
    → read (take (record_bytes * suc k) l) ≡ refused f k → read l ≡ refused f k
unfolding read
fault_stays l f k g c o h = go (refusal (take (record_bytes * suc k) l) f k h)
  where
    go : Refusal (take (record_bytes * suc k) l) f k → read l ≡ refused f k
    go (at_length e b i) = absurd (false≢true (rw (← b) at o))
    go (at_end w st e b i) = absurd (false≢true (rw (← b) at o))
    go (at_record w r o) =
        let here : read_records 0 (suc k) [] l ≡ refused f k =
        rw (count_front l (suc k) c, records-take 0 (suc k) (suc k) [] l (le_refl (suc k))) at r in
        rw (g, still_refused 0 (suc k) (contract_records l) [] l f k c here)

pub refused_length : (l : List ℕ) (k : ℕ) → read l ≡ refused BadLength k → (good_contract_length l ≡ false) × (k ≡ 0)
refused_length l k h = go (refusal l BadLength k h)
  where
    go : Refusal l BadLength k → (good_contract_length l ≡ false) × (k ≡ 0)
    go (at_length g e i) = (g, sym i)
    go (at_record w r o) = absurd (false≢true o)
    go (at_end w st g e i) = (cc, cc)

pub refused_end : (l : List ℕ) (k : ℕ) → read l ≡ refused NotOneClause k
    → (k ≡ contract_records l) × ((n : ℕ) → n ≤ contract_records l → Faultless (take (record_bytes * n) l))
refused_end l k h = go (refusal l NotOneClause k h)
  where
    go : Refusal l NotOneClause k → (k ≡ contract_records l) × ((n : ℕ) → n ≤ contract_records l → Faultless (take (record_bytes * n) l))
    go (at_length g e i) = let z : ◌≡◌ {A = ℕ} 0 1 = cc in absurd (omega arith)
    go (at_record w r o) = absurd (false≢true o)
    go (at_end w st g e i) = (sym i, faultless_fronts l (contract_records l) st (le_refl (contract_records l)) g)

-- a place is never above the most records
pub place_max : (l : List ℕ) (f : Fault) (k : ℕ) → read l ≡ refused f k → k ≤ max_records
place_max l f k h = go (refusal l f k h)
  where
    go : Refusal l f k → k ≤ max_records
    go (at_length g e i) = omega arith
    go (at_record w r o) = let s = stopped 0 (contract_records l) [] l f k r in omega (arith, s.place, s.within, w.few_records)
    go (at_end w st g e i) = omega (arith, w.few_records)
