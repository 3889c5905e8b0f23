-- Laws of the lines of a trace: each step's reply holds what its line says.
use Prim.Native.Nat.{ℕ, zero, suc, ◌+◌, ◌*◌, ◌-◌, ◌≤◌, ◌<◌}
use native.Mathlib.Numerals.{add-one}
use native.Mathlib.Omega.{arith}
use mathlib.Core.Bool.{true}
use mathlib.Core.List.{List, [], ◌∷◌}
use mathlib.Core.Path.{◌≡◌, refl, sym, ap, ◌∙◌}
use borrow.Author.Tests.{lt-ltb}
use lib.ListN.{length, replicate, take, drop, length-append}
use lib.Seq.{sets}
use Rattle.records.specs.Fields.{field}
use Rattle.records.specs.Holding.{HoldsField}
use Rattle.records.specs.declared.Head.{Head}
use Rattle.records.specs.Refusals.{Passed}
use Rattle.records.specs.declared.Verdict.{Verdict}
use Rattle.records.specs.Verdicts.{verdict_number}
use Rattle.records.specs.Replies.{four, eight, reply_of, head_of, head_size, Gives}
use Rattle.records.proofs.Replies.{field_back}
use Rattle.records.proofs.Verdicts.{same_verdict, few_verdicts}
use Rattle.periods.specs.Forms.{period_bytes}
use Rattle.periods.specs.declared.Party.TheVariants.{One as party1, Two as party2}
use Rattle.periods.specs.Periods.{Period}
use Rattle.periods.specs.Traces.{record_at, periods_of, marked_at, form_of, period_records, trace_periods}
use Rattle.periods.proofs.Forms.{few_whole}
use Rattle.periods.proofs.Traces.{length-periods_of, trace_marks, record_period, period_test_lem}
use Rattle.states.specs.Limits.{max_periods}
use Rattle.calls.specs.Calls.{step_reply_bytes, begin, step}
use Rattle.calls.specs.StepCalls.{StepCall, state_after_call}
use Rattle.contract.specs.Meaning.{Clause, only, both_parties, Decision, undecided, satisfied, violated, meaning}
use Rattle.contract.specs.Verdicts.{decision_period, blame, verdict}
use Rattle.contract.proofs.Meaning.{decision_within, within_period}
use Rattle.image.specs.Monitors.{call_test, accepts, periods_after, meant_answer, AnswersCalls, Monitors}
use Rattle.report.specs.declared.Text.{Text}
use Rattle.report.specs.declared.Stepped.{Stepped}
use Rattle.report.specs.Limits.{line_bytes, input_periods}
use Rattle.report.specs.Texts.{period_line, decided_line}
use Rattle.report.specs.Reports.{meant_line, period_lines, lines}
use Rattle.report.specs.Putting.{HasRoom, Appends, Follows, MayStep, Stepping, MayList, MayFollow}
use Rattle.report.proofs.Texts.{appended, grown, short_line, short_decided}

-- ---- a step's reply

-- what a step on record k of a trace leaves where its reply is read from an area of zeros
pub record Replied (image state trace : List ℕ) (k : ℕ) (later : List ℕ) (number blamed decision : ℕ) : Type 0 where
  pub state_is : later ≡ (step image state (record_at (form_of trace) trace k) (replicate step_reply_bytes 0)).buffers
  pub number_is : number ≡ (head_of (step image state (record_at (form_of trace) trace k) (replicate step_reply_bytes 0)).reply).own
  pub blame_is : blamed ≡ field (step image state (record_at (form_of trace) trace k) (replicate step_reply_bytes 0)).reply head_size 4
  pub decision_is : decision ≡ field (step image state (record_at (form_of trace) trace k) (replicate step_reply_bytes 0)).reply (head_size + 4) 4

-- what a step on a part of the trace leaves, the part being its record k
pub stepped_on : (image state trace : List ℕ) (k bytes : ℕ) → bytes ≡ period_bytes (form_of trace) → (result : ℕ) (later reply : List ℕ)
    → Gives (step image state (take (bytes * k + bytes - bytes * k) (drop (bytes * k) trace)) (replicate step_reply_bytes 0)) result later reply
    → (h : Head) → h ≡ head_of reply → (blamed decision : ℕ) → HoldsField reply head_size 4 blamed → HoldsField reply (head_size + 4) 4 decision
    → Replied image state trace k later h.own blamed decision
unfolding record_at
stepped_on image state trace k bytes i result later reply g h v blamed decision b d =
    let e : bytes * k + bytes - bytes * k ≡ bytes = omega arith in
    let w = rw (e, i) at g in
    record {
      state_is = w.buffers_are;
      number_is = rw (← w.reply_is) (ap (λ (x : Head). x.own) v);
      blame_is = rw (← w.reply_is) b.is;
      decision_is = rw (← w.reply_is) d.is;
    }

-- a blame is one digit
pub small_blame : (d : Decision) → blame d < 10
small_blame undecided = omega arith
small_blame (satisfied k) = omega arith
small_blame (violated k (only party1)) = omega arith
small_blame (violated k (only party2)) = omega arith
small_blame (violated k both_parties) = omega arith

-- ---- a step on record k, from a state that follows the clause after the k records before it

module _ (c : Clause) (image state trace : List ℕ) (k : ℕ) (later : List ℕ) (number blamed decision : ℕ)
    (f : Follows c image state (trace_periods trace k)) (h : k < period_records trace) (m : marked_at (form_of trace) trace k ≡ true)
    (few : k < input_periods) (g : Replied image state trace k later number blamed decision) where
  abbrev before : List Period
  before = trace_periods trace k

  abbrev next : List Period
  next = trace_periods trace (suc k)

  abbrev the_call : StepCall
  the_call = record { period = record_at (form_of trace) trace k; reply = replicate step_reply_bytes 0 }

  is_accepted : accepts (length before) the_call ≡ true
  unfolding accepts call_test
  is_accepted = rw (period_test_lem (form_of trace) trace k h m, length-periods_of (form_of trace) trace k, lt-ltb k max_periods (omega arith))

  periods_next : periods_after before the_call ≡ next
  unfolding periods_after periods_of
  periods_next = rw (is_accepted, record_period (form_of trace) trace k h m)

  reply_meant : (step image state (record_at (form_of trace) trace k) (replicate step_reply_bytes 0)).reply ≡ sets (replicate step_reply_bytes 0) 0 (reply_of Passed (meant_answer c next))
  unfolding AnswersCalls
  reply_meant = rw periods_next at ((f.answers (the_call ∷ [])).1.accepted is_accepted).1

  next_follows : Follows c image later next
  unfolding AnswersCalls state_after_call
  next_follows = record { free = f.free; answers = λ calls. rw (g.state_is, ← periods_next) (f.answers (the_call ∷ calls)).2 }

  abbrev decided : Decision
  decided = meaning c next

  abbrev seen : ℕ
  seen = verdict_number (verdict decided (length next))

  number_meant : number ≡ seen
  unfolding meant_answer
  number_meant =
      g.number_is
      ∙ rw reply_meant
      (field_back (four 0 ∷ []) (four seen) (eight 0 ∷ four (blame decided) ∷ four (decision_period decided) ∷ []) (replicate step_reply_bytes 0) (omega arith)
      (omega (arith, few_verdicts (verdict decided (length next)))))

  blame_meant : blamed ≡ blame decided
  unfolding meant_answer
  blame_meant =
      g.blame_is
      ∙ rw reply_meant
      (field_back (four 0 ∷ four seen ∷ eight 0 ∷ []) (four (blame decided)) (four (decision_period decided) ∷ []) (replicate step_reply_bytes 0) (omega arith)
      (omega (arith, small_blame decided)))

  decision_meant : decision ≡ decision_period decided
  unfolding meant_answer
  decision_meant =
      let e : length next ≡ suc k = length-periods_of (form_of trace) trace (suc k) in
      g.decision_is
      ∙ rw reply_meant
      (field_back (four 0 ∷ four seen ∷ eight 0 ∷ four (blame decided) ∷ []) (four (decision_period decided)) [] (replicate step_reply_bytes 0) (omega arith)
      (omega (arith, within_period (length next) decided (decision_within c f.free next))))

  -- the number is a verdict's
  pub has_verdict : (v : Verdict) × (verdict_number v ≡ number)
  has_verdict = (verdict decided (length next), sym number_meant)

  pub stepping : (v : Verdict) → verdict_number v ≡ number → Stepping c image trace k later (record { verdict = v; blame = blamed; decision = decision })
  stepping v e =
      record {
        follows = next_follows;
        verdict_is = rw (length-periods_of (form_of trace) trace (suc k)) at (same_verdict v (verdict decided (length next)) (e ∙ number_meant));
        blame_is = blame_meant;
        decision_is = decision_meant;
      }

-- ---- the loop over the periods

-- the lines are short enough for their room
short_lines : (c : Clause) (trace : List ℕ) (k : ℕ) → k ≤ input_periods → length (period_lines c trace k) ≤ line_bytes * k
unfolding period_lines meant_line
short_lines c trace zero h = omega arith
short_lines c trace (suc k) h =
    let w = trace_periods trace (suc k) in
    let d = meaning c w in
    let e : length w ≡ suc k = length-periods_of (form_of trace) trace (suc k) in
    rw length-append (
    omega (
      arith,
      short_lines c trace k (omega arith),
      short_line (length w) (verdict d (length w)) (blame d) (omega (arith, e)) (small_blame d),
    )
    )

-- after k periods this state follows the clause and the text has their lines more
pub record Held (c : Clause) (image trace : List ℕ) (text₀ : Text) (k : ℕ) (state : List ℕ) (text : Text) (decision : ℕ) : Type 0 where
  pub follows : Follows c image state (trace_periods trace k)
  pub puts : Appends text₀ (period_lines c trace k) text
  pub decides : decision ≡ decision_period (meaning c (trace_periods trace k))

module _ (c : Clause) (image trace : List ℕ) (text₀ : Text) where
  held_first : (state : List ℕ) → text₀.len ≤ length text₀.bytes.now → Follows c image state [] → Held c image trace text₀ 0 state text₀ 0
  unfolding periods_of period_lines
  held_first state l f =
      let z : decision_period (meaning c []) ≤ 0 = within_period 0 (meaning c []) (decision_within c f.free []) in
      record {
        follows = f;
        puts = record { same_buffer = refl; puts = record { text_is = refl; end_is = omega arith; fits = l } };
        decides = omega arith;
      }

  -- one period more
  held_next : (k : ℕ) (state later : List ℕ) (text last : Text) (decision : ℕ) (s : Stepped)
      → Held c image trace text₀ k state text decision → Stepping c image trace k later s
      → Appends text (period_line (k + 1) s.verdict s.blame) last → Held c image trace text₀ (k + 1) later last s.decision
  unfolding period_lines meant_line
  held_next k state later text last decision s h g p =
      let w = trace_periods trace (suc k) in
      let e : length w ≡ suc k = length-periods_of (form_of trace) trace (suc k) in
      let line : Appends text (meant_line c w) last = rw (e, ← g.verdict_is, ← g.blame_is) (rw add-one at p) in
      rw add-one record { follows = g.follows; puts = appended (period_lines c trace k) (meant_line c w) h.puts line; decides = g.decision_is }

-- ---- the loop, for whichever clause the first state follows

module _ {image state₀ trace : List ℕ} {text₀ : Text} {n : ℕ} (a : MayList image state₀ trace n text₀) where
  pub first_held : (c : Clause) → Follows c image state₀ [] → Held c image trace text₀ 0 state₀ text₀ 0
  first_held c f = held_first c image trace text₀ state₀ (omega (arith, a.room)) f

  module _ (k : ℕ) (state : List ℕ) (text : Text) (decision : ℕ) (h : (c : Clause) → Follows c image state₀ [] → Held c image trace text₀ k state text decision) where
    here : Held a.clause image trace text₀ k state text decision
    here = h a.clause a.follows

    pub may_step : k < n → MayStep image state trace k
    may_step i =
        record {
          clause = a.clause;
          follows = here.follows;
          inside = omega (arith, a.whole);
          marked = a.marks k i;
          few = omega (arith, a.few);
        }

    -- a step on record k
    module _ (i : k < n) (later : List ℕ) (s : Stepped) (g : (c : Clause) → Follows c image state (trace_periods trace k) → Stepping c image trace k later s) where
      pub line_room : HasRoom text (period_line (k + 1) s.verdict s.blame)
      line_room =
          let b : s.blame < 10 = rw (g a.clause here.follows).blame_is (small_blame (meaning a.clause (trace_periods trace (suc k)))) in
          omega (
            arith,
            a.room,
            a.few,
            grown here.puts,
            short_lines a.clause trace k (omega (arith, a.few)),
            short_line (k + 1) s.verdict s.blame (omega (arith, a.few)) b,
          )

      pub next_held : (last : Text) → Appends text (period_line (k + 1) s.verdict s.blame) last
          → (c : Clause) → Follows c image state₀ [] → Held c image trace text₀ (k + 1) later last s.decision
      next_held last p c f = held_next c image trace text₀ k state later text last decision s (h c f) (g c (h c f).follows) p

    module _ (e : k ≡ n) where
      -- there is room for the last line
      pub last_room : HasRoom text (decided_line decision)
      last_room =
          let q = here in
          let w = trace_periods trace k in
          let l : length w ≡ k = length-periods_of (form_of trace) trace k in
          let small : decision ≤ input_periods = omega (arith, q.decides, a.few, within_period (length w) (meaning a.clause w) (decision_within a.clause q.follows.free w)) in
          omega (arith, a.room, grown q.puts, short_lines a.clause trace k (omega (arith, a.few)), short_decided decision small)

      -- with the last line the report is whole
      pub all_listed : (last : Text) → Appends text (decided_line decision) last → (c : Clause) → Follows c image state₀ [] → Appends text₀ (lines c trace n) last
      unfolding lines
      all_listed last p c f =
          let q = h c f in
          rw (← e) (appended (period_lines c trace k) (decided_line (decision_period (meaning c (trace_periods trace k)))) q.puts (rw q.decides at p))

-- ---- a state that begin leaves

module _ {image state trace : List ℕ} {text : Text} (a : MayFollow image state trace text) where
  -- begin's state follows the clause of whichever contract the image monitors
  begin_follows : (contract : List ℕ) (m : Monitors contract image) (reply : List ℕ) → head_size ≤ length reply
      → Follows m.clause image (begin image state reply).buffers []
  begin_follows contract m reply r = record { free = m.spells.empty_free; answers = (m.answers state reply a.state_long r).1 }

  -- the lines can be put
  pub may_list : (reply later : List ℕ) → head_size ≤ length reply → later ≡ (begin image state reply).buffers
      → MayList image later trace (period_records trace) text
  may_list reply later r e =
      let sixes = few_whole (form_of trace) trace in
      rw e record {
        clause = a.monitors.clause;
        follows = begin_follows a.contract a.monitors reply r;
        whole = omega arith;
        marks = trace_marks trace a.passed;
        few = omega (arith, a.short);
        room = omega (arith, a.short, a.room);
      }

  pub all_followed : (reply later : List ℕ) → head_size ≤ length reply → later ≡ (begin image state reply).buffers → {last : Text}
      → ((c : Clause) → Follows c image later [] → Appends text (lines c trace (period_records trace)) last)
      → (contract : List ℕ) (m : Monitors contract image) → Appends text (lines m.clause trace (period_records trace)) last
  all_followed reply later r e l contract m = l m.clause (rw e (begin_follows contract m reply r))
