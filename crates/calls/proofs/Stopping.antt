-- What holds of decide's answers. Document 02, "Stop reading once it is decided".
use Prim.Native.Nat.{ℕ, ◌≤◌, ◌<◌}
use native.Mathlib.Omega.{arith}
use mathlib.Core.Bool.{true, false}
use mathlib.Core.List.{List}
use mathlib.Core.Path.{◌≡◌, sym, ap, ◌∙◌}
use lib.ListN.{length}
use Rattle.records.proofs.Replies.{call-passed}
use Rattle.periods.specs.Traces.{marked_at, form_of, period_records, trace_periods, trace_test}
use Rattle.periods.proofs.Traces.{length-periods_of, marks_pass}
use Rattle.periods.proofs.First.{first_count, first_start, first_marked, first_periods, first_long}
use Rattle.layout.specs.Images.{row_count, image_of}
use Rattle.states.specs.States.{state_of, fresh_bytes}
use Rattle.states.proofs.Refusals.{passes_count}
use Rattle.machine.specs.Machine.{undecided, after_periods}
use Rattle.machine.specs.Premises.{Ready}
use Rattle.machine.proofs.Steps.{later_read}
use Rattle.calls.specs.Reading.{state_after_records, records_read}
use Rattle.calls.specs.Refusals.{ready_test, run_test, decide_test}
use Rattle.calls.specs.Calls.{step_reply_bytes, decide_reply_bytes, run, decide}
use Rattle.calls.specs.Stopping.{read_first, SameAsRun, StartsAs}
use Rattle.calls.proofs.Refusals.{unread_passed, unread_passes, unread_ready, decide_unread, decide_marks}
use Rattle.calls.proofs.Reading.{few_read, undecided_before, read_exactly}
use Rattle.records.specs.Refusals.{Passed}

-- ---- run over the records read

module _ (image trace area reply : List ℕ) (t : decide_test image trace ≡ Passed) (a : decide_reply_bytes ≤ length area) (b : step_reply_bytes ≤ length reply) where
  abbrev read : ℕ
  read = records_read image trace

  abbrev front : List ℕ
  front = read_first image trace

  abbrev fresh : List ℕ
  fresh = fresh_bytes (row_count image)

  as_many : period_records front ≡ read
  as_many = first_count trace read (few_read image trace)

  front-marked : (i : ℕ) → i < read → marked_at (form_of front) front i ≡ true
  front-marked i l = first_marked trace read (few_read image trace) i l ∙ decide_marks image trace t i l

  ready : Ready image fresh (period_records trace)
  ready = unread_ready image trace (decide_unread image trace t)

  run_accepted : run_test image fresh front ≡ Passed
  unfolding run_test ready_test trace_test
  run_accepted =
      rw (ready.good, ready.sound, first_start trace read (few_read image trace) (unread_passed image trace (decide_unread image trace t)).1, as_many, marks_pass (form_of front) front read front-marked)
      (passes_count (state_of fresh).periods read (omega (arith, ready.room, few_read image trace)))

  left_by_run : state_of (run image fresh front reply).buffers ≡ state_after_records image trace read
  unfolding run state_after_records
  left_by_run =
      let w = trace_periods trace read in
      let e : length w ≡ read = length-periods_of (form_of trace) trace read in
      rw (call-passed (run_test image fresh front) _ fresh _ reply b run_accepted, as_many, first_periods trace read (few_read image trace) read (omega arith))
      (later_read image fresh (period_records trace) ready w (omega (arith, few_read image trace)))

  pub same_as_run : SameAsRun image trace area reply
  unfolding decide
  same_as_run =
      record {
        as_many = as_many;
        run_accepted = run_accepted;
        same = rw (left_by_run, call-passed (decide_test image trace) _ (tt {0}) (tt {0}) area a t);
      }

-- ---- traces that go on differently after the decision

module _ (image t u area : List ℕ) (p : decide_test image t ≡ Passed) (d : undecided (state_after_records image t (records_read image t)) ≡ false) (s : StartsAs image t u) where
  abbrev last : ℕ
  last = records_read image t

  u_long : last ≤ period_records u
  u_long = first_long t u last (few_read image t) s.starts

  same_marks : (i : ℕ) → i < last → marked_at (form_of u) u i ≡ marked_at (form_of t) t i
  same_marks i l =
      sym (first_marked u last u_long i l) ∙ ap (λ (x : List ℕ). marked_at (form_of x) x i) s.starts ∙ first_marked t last (few_read image t) i l

  same_states : (j : ℕ) → j ≤ last → state_after_records image u j ≡ state_after_records image t j
  unfolding state_after_records
  same_states j l =
      ap (after_periods (image_of image) (state_of (fresh_bytes (row_count image))))
      (sym (first_periods u last u_long j l) ∙ ap (λ (x : List ℕ). trace_periods x j) s.starts ∙ first_periods t last (few_read image t) j l)

  same_read : records_read image u ≡ last
  same_read =
      read_exactly image u last u_long (λ i l. rw (same_states i (omega arith)) (undecided_before image t i l)) (λ l. rw (same_states last (omega arith)) d)

  accepted : decide_test image u ≡ Passed
  unfolding decide_test
  accepted =
      rw (unread_passes image u (unread_passed image t (decide_unread image t p)).0 s.good_start s.few, same_read)
      (marks_pass (form_of u) u last (λ i l. same_marks i l ∙ decide_marks image t p i l))

  pub same_whatever_follows : decide image u area ≡ decide image t area
  unfolding decide
  same_whatever_follows = rw (accepted, p, same_read, same_states last (omega arith))
