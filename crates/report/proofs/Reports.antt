-- Laws of the report: longer than the limit, refused by compile, refused by the trace's test, or followed.
use Prim.Native.Nat.{ℕ, ◌+◌, ◌*◌, ◌≤◌, ◌<◌}
use native.Mathlib.Nat.{zero-add, le_refl}
use native.Mathlib.Omega.{arith}
use mathlib.Core.Bool.{Bool, true, false}
use mathlib.Core.List.{List}
use mathlib.Core.Path.{◌≡◌, refl, sym, ap, ◌∙◌}
use lib.Dec.{leb}
use lib.ListN.{length, take, replicate, length-drop}
use lib.Seq.{sets, length-sets, length-take-le}
use borrow.Author.Tests.{le-leb, lt-leb, leb-true}
use Rattle.records.specs.declared.Head.{Head}
use Rattle.records.specs.declared.Fault.{Fault}
use Rattle.records.specs.declared.Fault.TheVariants.{LongInput}
use Rattle.std.specs.Prelude.{Err}
use Rattle.records.specs.declared.Refusal.{Refusal}
use Rattle.records.specs.Refusals.{Passed, Refused, fault_number, require}
use Rattle.records.specs.Replies.{alone, reply_of, call, head_of, head_size}
use Rattle.records.proofs.Refusals.{first_only, fault_bounds}
use Rattle.records.proofs.Replies.{head_back}
use Rattle.periods.specs.Traces.{form_of, period_records, trace_test}
use Rattle.periods.proofs.Forms.{few_whole}
use Rattle.layout.specs.Limits.{row_bytes, max_rows}
use Rattle.layout.specs.Images.{row_count}
use Rattle.layout.specs.Refusals.{image_test}
use Rattle.states.specs.Limits.{head_bytes, max_periods}
use Rattle.states.specs.States.{state_of}
use Rattle.states.specs.Refusals.{count_test}
use Rattle.states.proofs.Fresh.{fresh_state, fresh_read}
use Rattle.calls.specs.Refusals.{run_test}
use Rattle.calls.specs.Calls.{begin}
use Rattle.calls.proofs.Refusals.{begin_passes}
use Rattle.calls.proofs.StepCalls.{begin-written, begin-sound}
use Rattle.contract.specs.Meaning.{Clause}
use Rattle.grammar.specs.Reader.{Result, refused, taken, read, read_test}
use Rattle.grammar.proofs.Reader.{taken_count, taken_spells, spells_taken}
use Rattle.grammar.proofs.WindowSum.{spelled_windows, windows-max}
use Rattle.grammar.proofs.Places.{place_max}
use Rattle.image.specs.Limits.{allowed_for, buffer_for}
use Rattle.image.specs.Images.{image_for}
use Rattle.image.specs.Monitors.{Monitors}
use Rattle.compiler.specs.Refusals.{compile_test}
use Rattle.compiler.specs.Calls.{first_image, compile, Compiles, Usable}
use Rattle.report.specs.Limits.{input_bytes, text_bytes}
use Rattle.report.specs.Texts.{refused_line}
use Rattle.report.specs.Split.{contract_of, trace_of}
use Rattle.report.specs.Reports.{lines, on_trace, on_contract, report}
use Rattle.report.specs.declared.Text.{Text}
use Rattle.report.specs.Putting.{Appends, Served, MayFollow}

-- ---- the input's length

module _ (input : List ℕ) where
  pub longer : (r : Refusal) → Err r ≡ require (leb (length input) input_bytes) LongInput 0 → report input ≡ refused_line (fault_number r.fault) r.place
  unfolding report
  longer r e = rw (← e)

  pub too_long : input_bytes < length input → report input ≡ refused_line (fault_number LongInput) 0
  unfolding report
  too_long h = rw (lt-leb (length input) input_bytes h)

  no_longer : Passed ≡ require (leb (length input) input_bytes) LongInput 0 → report input ≡ on_contract (read (contract_of input)) (trace_of input)
  unfolding report
  no_longer e = rw (← e)

  -- passed, the input is short enough
  short_input : Passed ≡ require (leb (length input) input_bytes) LongInput 0 → length input ≤ input_bytes
  short_input e = go (leb (length input) input_bytes) refl e
    where
      go : (t : Bool) → leb (length input) input_bytes ≡ t → Passed ≡ require t LongInput 0 → length input ≤ input_bytes
      go true i p = leb-true (length input) input_bytes i
      go false i p = cc

-- ---- compile's reply

-- what compile leaves where its reply is read from an area of zeros
pub record Replied (contract buffer later : List ℕ) (h : Head) : Type 0 where
  pub result : ℕ
  pub reply : List ℕ
  pub compiles : Compiles contract buffer (replicate head_size 0) result later reply
  pub head_is : h ≡ head_of reply

-- for a contract that is taken 8 asks room for no more rows than an image can have
allowed_max : (contract : List ℕ) (c : Clause) → read contract ≡ taken c → allowed_for contract ≤ max_rows
allowed_max contract c i =
    let s = taken_spells contract c i in
    omega (arith, taken_count contract c i, spelled_windows contract c s, windows-max c s.in_range, s.few_records)

-- so it never meets 8 with a buffer for the most rows, which stays as long as it was
module _ (contract buffer : List ℕ) (e : length buffer ≡ row_bytes * (max_rows + 1)) (c : Clause) (i : read contract ≡ taken c) where
  roomy : buffer_for contract ≤ length buffer
  roomy = omega (arith, allowed_max contract c i)

  same_long : length (compile contract buffer (replicate head_size 0)).buffers ≡ length buffer
  unfolding compile compile_test call read_test
  same_long = rw (i, le-leb (buffer_for contract) (length buffer) roomy) (length-sets buffer 0 (image_for contract))

-- refused exactly where the number is not 0
module _ {contract buffer later : List ℕ} {r : Head} (h : Replied contract buffer later r) (e : length buffer ≡ row_bytes * (max_rows + 1)) where
  -- the reply of a refusal
  refused_reply : (f : Fault) (k : ℕ) → read contract ≡ refused f k
      → h.reply ≡ sets (replicate head_size 0) 0 (reply_of (Refused f k) (alone 0))
  unfolding compile compile_test call read_test
  refused_reply f k i = h.compiles.gives.reply_is ∙ rw i

  refused_head : (f : Fault) (k : ℕ) → read contract ≡ refused f k → r ≡ record { number = fault_number f; own = 0; place = k }
  refused_head f k i =
      h.head_is ∙ rw (refused_reply f k i) (head_back (replicate head_size 0) (Refused f k) (alone 0) (omega arith) (omega arith) (omega (arith, place_max contract f k i)))

  usable : (c : Clause) → read contract ≡ taken c → Usable contract later h.reply
  usable c i = h.compiles.usable c (taken_spells contract c i) (le_refl head_size) (roomy contract buffer e c i)

  pub refused_contract : ¬ (r.number ≡ 0) → (trace : List ℕ) → on_contract (read contract) trace ≡ refused_line r.number r.place
  refused_contract n trace = go (read contract) refl
    where
      go : (o : Result Clause) → read contract ≡ o → on_contract (read contract) trace ≡ refused_line r.number r.place
      go (refused f k) i = rw (i, refused_head f k i)
      go (taken c) i = absurd (n (ap (λ (x : Head). x.number) (h.head_is ∙ (usable c i).head_is)))

  pub taken_contract : r.number ≡ 0 → Served contract later r.own
  taken_contract n = go (read contract) refl
    where
      go : (o : Result Clause) → read contract ≡ o → Served contract later r.own
      go (refused f k) i = absurd (omega (arith, ap (λ (x : Head). x.number) (refused_head f k i), (fault_bounds f).0))
      go (taken c) i =
          let u = usable c i in
          let s : r.own ≡ u.count = ap (λ (x : Head). x.own) (h.head_is ∙ u.head_is) in
          let few : u.count ≤ max_rows = omega (arith, u.few, allowed_max contract c i) in
          let long : length later ≡ length buffer = rw h.compiles.gives.buffers_are (same_long contract buffer e c i) in
          let within : row_bytes * (u.count + 1) ≤ length later = omega arith in
          rw s record {
            few = few;
            within = within;
            count = u.rows;
            monitors = u.monitors;
          }

-- ---- the input's parts as the program has them, and its ways out

module _ (input contract trace : List ℕ) (e : contract ≡ contract_of input) (d : trace ≡ trace_of input) (l : Passed ≡ require (leb (length input) input_bytes) LongInput 0) where
  pub contract_refused : (number place : ℕ) → ((trace : List ℕ) → on_contract (read contract) trace ≡ refused_line number place) → report input ≡ refused_line number place
  contract_refused number place h = no_longer input l ∙ rw (← e) (h (trace_of input))

  module _ {later : List ℕ} {rows : ℕ} (s : Served contract later rows) where
    on_taken : report input ≡ on_trace s.monitors.clause trace
    on_taken = no_longer input l ∙ rw (← e, ← d, spells_taken contract s.monitors.clause s.monitors.spells)

    pub trace_refused : (r : Refusal) → Err r ≡ trace_test trace → report input ≡ refused_line (fault_number r.fault) r.place
    unfolding on_trace
    trace_refused r e = on_taken ∙ rw (← e)

    module _ (p : Passed ≡ trace_test trace) where
      pub may_follow : (state : List ℕ) (text : Text) → length state ≡ head_bytes + max_rows → text.len + text_bytes ≤ length text.bytes.now
          → MayFollow (first_image rows later) (take (head_bytes + rows) state) trace text
      may_follow state text b r =
          record {
            contract = contract;
            monitors = s.monitors;
            state_long = rw s.count (length-take-le (head_bytes + rows) state (omega (arith, s.few)));
            passed = sym p;
            short = rw (d, length-drop) (omega (arith, short_input input l));
            room = r;
          }

      pub followed : {text last : Text} → ((contract : List ℕ) (m : Monitors contract (first_image rows later)) → Appends text (lines m.clause trace (period_records trace)) last)
          → Appends text (report input) last
      unfolding on_trace
      followed f = rw (on_taken, ← p) (f contract s.monitors)

-- ---- "run's on the trace" is the trace's own test: from the state that begin leaves no other test of run's refuses

module _ (image state reply : List ℕ) (g : image_test image ≡ Passed) (e : length state ≡ head_bytes + row_count image)
    (r : head_size ≤ length reply) where
  begin_fresh : state_of (begin image state reply).buffers ≡ fresh_state (row_count image)
  begin_fresh = rw (begin-written image state reply r (begin_passes image state g e), e) (fresh_read (row_count image))

  pub only_trace : (trace : List ℕ) → length trace ≤ input_bytes → run_test image (begin image state reply).buffers trace ≡ trace_test trace
  unfolding run_test count_test
  only_trace trace l =
      let few : period_records trace ≤ max_periods = omega (arith, few_whole (form_of trace) trace) in
      rw (begin-sound image state reply r (begin_passes image state g e), begin_fresh, zero-add, le-leb (period_records trace) max_periods few) (first_only (trace_test trace))
