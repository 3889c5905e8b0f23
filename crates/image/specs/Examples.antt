-- Vectors of the image: every kind, every error of document 01's "What students hand in", and the example of "Watch" through the bytes; the rows
-- of deadlines and of joint duties (document 02, "Duties with a deadline" and "Duties that both parties own"), and the room for rows; `until` (document
-- 02, "An ending that may begin in any period"), and an image of one that was compiled before; the example of "Watch" read to its decision
-- (document 02, "Stop reading once it is decided").
use Rattle.std.specs.Prelude.{ℕ, ◌+◌, List, [], ◌∷◌, ◌++◌, map, ◌≡◌, length, take, drop, replicate}
use Rattle.records.specs.Examples.{area}
use Rattle.records.specs.declared.Verdict.{Verdict}
use Rattle.records.specs.declared.Verdict.TheVariants.{Open, Met, MetAfter, Broken, BrokenAfter}
use Rattle.periods.specs.declared.Party.TheVariants.{One as party1, Two as party2}
use Rattle.periods.specs.Periods.{Period}
use Rattle.periods.specs.Examples.{other_record}
use Rattle.layout.specs.Images.{Image, row_count}
use Rattle.layout.specs.Examples.{row, end}
use Rattle.states.specs.States.{State, state_of}
use Rattle.states.specs.Verdicts.{verdict}
use Rattle.machine.specs.Machine.{after_period}
use Rattle.calls.specs.Calls.{begin, step, decide}
use Rattle.calls.specs.Examples.{reply, decide_reply}
use Rattle.contract.specs.Expressions.{any, tries, idle, succeeds, fails, atom, seq, or, star}
use Rattle.contract.specs.Meaning.{only, Clause, Decision, undecided, satisfied, violated, deadline, both, then, repair, repeat, when, until}
use Rattle.contract.specs.Examples.{a, b, duty, joint, ban, power, a/a, a/-, -/a, -/-, ab/a, b/a, b/b, b/-, tries_a, tries_b, endless}
use Rattle.grammar.specs.Examples.{six, six_with, joined}
use Rattle.image.specs.Limits.{allowed_for, buffer_for}
use Rattle.image.specs.Images.{image, image_for}
use Rattle.image.specs.Monitors.{records_for}

-- verdict, blame and decision period
abbrev pub Line : Type 0
Line = Verdict × ℕ × ℕ

-- the row machine's lines, one for each period
unfoldable pub lines_from : Image → State → List Period → List Line
lines_from m s [] = []
lines_from m s (x ∷ w) =
    let t = after_period m x s in
    (verdict t, t.blame, t.decision) ∷ lines_from m t w

-- on the image of a clause, begun with zeros
unfoldable pub lines : Clause → List Period → List Line
lines c w = lines_from (image c) (state_of (replicate (10 + length (image c).rows) 0)) w

-- ---- kinds; those that are not here are among the students', the deadlines' and the joint duties' below

pub record KindVectors : Type 0 where
  -- both violated in one period: the blames are united
  pub powers_and_duties : lines (both (power party1 a) (duty party1 b)) (a/- ∷ []) ≡ (Broken, 3, 1) ∷ []
  -- accepted in period 2, by the second of the two that may follow; party 1 is barred from b in period 3
  pub accepted_second :
      lines (when (seq (atom (idle party1 b)) (or (atom (tries party2 b)) (atom (succeeds a)))) (ban party1 b)) (a/- ∷ a/a ∷ b/b ∷ [])
      ≡ (Open, 0, 0) ∷ (Open, 0, 0) ∷ (Broken, 1, 3) ∷ []
  -- a succeeds, so the expression is rejected
  pub rejected_fails : lines (when (atom (fails a)) (duty party2 a)) (a/a ∷ []) ≡ (Met, 0, 1) ∷ []
  -- accepted in the first odd period in which party 1 tries a
  pub accepted_odd :
      lines (when (seq (star (seq (atom any) (atom any))) (atom (tries party1 a))) (ban party1 b)) (-/- ∷ a/- ∷ a/- ∷ b/b ∷ [])
      ≡ (Open, 0, 0) ∷ (Open, 0, 0) ∷ (Open, 0, 0) ∷ (Broken, 1, 4) ∷ []

-- ---- what students hand in; the student's answer stands in brackets

pub record StudentVectors : Type 0 where
  -- party 2's later breach in the other half adds no blame (blame 3 in period 2)
  pub no_later_blame :
      lines (both (duty party1 a) (then (ban party2 b) (duty party2 b))) (-/a ∷ b/- ∷ [])
      ≡ (Broken, 1, 1) ∷ (BrokenAfter, 1, 1) ∷ []
  -- the half that bars b in period 2 dies with the whole in period 1, so the repair is not begun again in period 3 (broken there, blame 1)
  pub no_living_half :
      lines (repeat (repair (both (ban party1 a) (then (ban party1 b) (ban party2 b))) (then (ban party1 a) (ban party1 b)))) (a/a ∷ b/b ∷ a/a ∷ [])
      ≡ (Open, 0, 0) ∷ (Open, 0, 0) ∷ (Open, 0, 0) ∷ []
  -- the clause that owes a in period 2 dies with the `until` that finished in period 1 (broken in 2, blame 2)
  pub no_living_clause :
      lines (repeat (then (until (then (ban party1 a) (duty party2 a)) (atom (tries party1 b))) (ban party1 b))) (b/- ∷ -/- ∷ [])
      ≡ (Open, 0, 0) ∷ (Open, 0, 0) ∷ []
  -- party 1 owes b only from period 2 on (broken in 1, blame 1)
  pub right_of_then :
      lines (then (duty party1 a) (duty party1 b)) (a/a ∷ b/b ∷ [])
      ≡ (Open, 0, 0) ∷ (Met, 0, 2) ∷ []
  pub right_of_repair :
      lines (repair (duty party1 a) (duty party1 b)) (-/- ∷ b/b ∷ [])
      ≡ (Open, 0, 0) ∷ (Met, 0, 2) ∷ []
  -- the violation in the accepting period counts, so it is repaired from period 2 on (met in 1)
  pub violation_first :
      lines (repair (until (duty party1 a) (atom (tries party1 b))) (duty party2 a)) (b/a ∷ a/- ∷ [])
      ≡ (Open, 0, 0) ∷ (Broken, 2, 2) ∷ []

-- ---- deadlines; what a wrong block would give stands in brackets

pub record DeadlineVectors : Type 0 where
  -- the blame goes by period 3 alone (blame 2, by the periods before; broken in 1 or 2)
  pub missed_by_own :
      lines (deadline party1 a 3) (a/- ∷ a/- ∷ -/a ∷ [])
      ≡ (Open, 0, 0) ∷ (Open, 0, 0) ∷ (Broken, 1, 3) ∷ []
  pub missed_by_other :
      lines (deadline party2 a 3) (a/- ∷ -/- ∷ -/a ∷ [])
      ≡ (Open, 0, 0) ∷ (Open, 0, 0) ∷ (Broken, 1, 3) ∷ []
  -- both try in no period before the last
  pub met_in_last : lines (deadline party1 a 3) (a/- ∷ -/a ∷ a/a ∷ []) ≡ (Open, 0, 0) ∷ (Open, 0, 0) ∷ (Met, 0, 3) ∷ []
  -- the least window and the greatest
  pub window_of_1 : lines (deadline party1 a 1) (a/- ∷ []) ≡ (Broken, 2, 1) ∷ []
  pub window_of_15 : lines (deadline party2 a 15) (replicate 15 a/-) ≡ replicate 14 (Open, 0, 0) ++ ((Broken, 2, 15) ∷ [])
  -- met in period 2, it is not missed in period 3, in which the other half goes on (broken there, blame 1)
  pub no_life_after_success :
      lines (both (deadline party1 a 3) (repeat (ban party1 b))) (-/- ∷ a/a ∷ -/- ∷ [])
      ≡ (Open, 0, 0) ∷ (Open, 0, 0) ∷ (Open, 0, 0) ∷ []
  -- begun in period 1, it dies with the `until` that finished there and is not missed in period 3 (broken there, blame 1)
  pub no_living_window :
      lines (repeat (until (deadline party1 a 3) (atom (tries party1 b)))) (b/- ∷ -/- ∷ -/- ∷ [])
      ≡ (Open, 0, 0) ∷ (Open, 0, 0) ∷ (Open, 0, 0) ∷ []
  -- nor is it met in period 2, so the right of `then` is not begun again in period 3 (open there)
  pub no_living_success :
      lines (then (until (deadline party1 a 2) (atom (tries party1 b))) (deadline party1 b 2)) (b/- ∷ a/a ∷ -/- ∷ [])
      ≡ (Open, 0, 0) ∷ (Open, 0, 0) ∷ (Broken, 1, 3) ∷ []

-- ---- duties that both parties own; what a wrong block would give stands in brackets

pub record JointVectors : Type 0 where
  -- "the blame is on each party that didn't try" (blame 1 for -/-)
  pub joint_alone :
      map (λ x. lines (joint a) (x ∷ [])) (a/a ∷ a/- ∷ -/a ∷ -/- ∷ [])
      ≡ ((Met, 0, 1) ∷ []) ∷ ((Broken, 2, 1) ∷ []) ∷ ((Broken, 1, 1) ∷ []) ∷ ((Broken, 3, 1) ∷ []) ∷ []
  -- begun anew in each period, and told once (blame 3 from period 3 on)
  pub joint_repeated :
      lines (repeat (joint a)) (a/a ∷ a/- ∷ -/a ∷ [])
      ≡ (Open, 0, 0) ∷ (Broken, 2, 2) ∷ (BrokenAfter, 2, 2) ∷ []
  -- united with the other half's blame, and repaired by a clause whose blame alone counts (blame 3 in 2)
  pub joint_united : lines (both (power party1 b) (joint a)) (b/a ∷ []) ≡ (Broken, 3, 1) ∷ []
  pub joint_repaired : lines (repair (joint a) (duty party2 b)) (-/- ∷ -/- ∷ []) ≡ (Open, 0, 0) ∷ (Broken, 2, 2) ∷ []
  -- it says nothing before it begins to read in period 2 (broken in 1)
  pub joint_begun_later : lines (then (ban party1 a) (joint a)) (-/- ∷ -/- ∷ []) ≡ (Open, 0, 0) ∷ (Broken, 3, 2) ∷ []

-- ---- endings; what a wrong block would give stands in brackets

pub record EndingVectors : Type 0 where
  -- accepted in period 2 (open there, from period 1 alone)
  pub notice_in_2 : lines (until (repeat (duty party1 a)) tries_b) (a/a ∷ ab/a ∷ []) ≡ (Open, 0, 0) ∷ (Met, 0, 2) ∷ []
  -- the violation in the accepting period counts, so it is repaired from period 3 on (met in 2)
  pub violated_at_acceptance :
      lines (repair (until (repeat (duty party1 a)) tries_b) (duty party2 a)) (a/a ∷ b/a ∷ a/- ∷ [])
      ≡ (Open, 0, 0) ∷ (Open, 0, 0) ∷ (Broken, 2, 3) ∷ []
  -- of two stretches that overlap the later one completes (open in 4)
  pub later_completes :
      lines (until endless (seq tries_a (seq tries_a tries_b))) (a/- ∷ a/- ∷ a/- ∷ b/- ∷ [])
      ≡ (Open, 0, 0) ∷ (Open, 0, 0) ∷ (Open, 0, 0) ∷ (Met, 0, 4) ∷ []
  -- the stretch from period 2 ends before that from period 1 (met in 4)
  pub ends_before_first :
      lines (until endless (or (seq tries_a (seq (atom any) (seq (atom any) tries_b))) (seq tries_b tries_b))) (a/- ∷ b/- ∷ b/- ∷ b/- ∷ [])
      ≡ (Open, 0, 0) ∷ (Open, 0, 0) ∷ (Met, 0, 3) ∷ (MetAfter, 0, 3) ∷ []
  -- the stretch of periods 2 and 3 began in the last round, so b is owed in period 4 (broken there)
  pub not_of_last_round :
      lines (repeat (until (then (duty party1 a) (duty party1 b)) (seq tries_b tries_a))) (a/a ∷ b/b ∷ a/a ∷ b/b ∷ [])
      ≡ replicate 4 (Open, 0, 0)
  -- begun in period 3, it counts nothing that was tried in period 2: alone (met in 2), or as the beginning of a stretch (met in 3)
  pub nothing_before_begun :
      lines (then (then (duty party1 a) (duty party1 a)) (until endless tries_b)) (a/a ∷ ab/a ∷ -/- ∷ b/- ∷ [])
      ≡ (Open, 0, 0) ∷ (Open, 0, 0) ∷ (Open, 0, 0) ∷ (Met, 0, 4) ∷ []
  pub not_from_before_begun :
      lines (then (then (duty party1 a) (duty party1 a)) (until endless (seq tries_b tries_b))) (a/a ∷ ab/a ∷ b/- ∷ b/- ∷ [])
      ≡ (Open, 0, 0) ∷ (Open, 0, 0) ∷ (Open, 0, 0) ∷ (Met, 0, 4) ∷ []
  -- accepted in period 1, it ends there with its expression: the stretch of periods 1 and 2 does not begin the right of `then` again (broken in 3)
  pub no_living_expression :
      lines (then (until endless (or tries_b (seq tries_b tries_a))) (then (ban party1 b) (duty party1 b))) (b/- ∷ a/- ∷ b/b ∷ [])
      ≡ (Open, 0, 0) ∷ (Open, 0, 0) ∷ (Met, 0, 3) ∷ []

-- ---- the contract and the periods of "Watch", byte for byte: its image, begin, and a step call for each period

abbrev pub watched_bytes : List ℕ
watched_bytes =
    0x54 ∷ 0x43 ∷ 0x01 ∷ 0x01 ∷ 0x00 ∷ 0x00
    ∷ 0x54 ∷ 0x43 ∷ 0x01 ∷ 0x01 ∷ 0x01 ∷ 0x00
    ∷ 0x54 ∷ 0x43 ∷ 0x06 ∷ 0x00 ∷ 0x00 ∷ 0x00
    ∷ 0x54 ∷ 0x43 ∷ 0x07 ∷ 0x00 ∷ 0x00 ∷ 0x00 ∷ []

abbrev pub watched_records : List (List ℕ)
watched_records =
    (0x54 ∷ 0x50 ∷ 0x01 ∷ 0x00 ∷ 0x01 ∷ 0x00 ∷ [])
    ∷ (0x54 ∷ 0x50 ∷ 0x00 ∷ 0x00 ∷ 0x00 ∷ 0x00 ∷ [])
    ∷ (0x54 ∷ 0x50 ∷ 0x02 ∷ 0x00 ∷ 0x00 ∷ 0x00 ∷ [])
    ∷ (0x54 ∷ 0x50 ∷ 0x01 ∷ 0x00 ∷ 0x01 ∷ 0x00 ∷ []) ∷ []

-- the same attempts in wide records
abbrev pub watched_wide : List (List ℕ)
watched_wide =
    (0x54 ∷ 0x51 ∷ 0x01 ∷ 0x00 ∷ 0x00 ∷ 0x00 ∷ 0x01 ∷ 0x00 ∷ 0x00 ∷ 0x00 ∷ [])
    ∷ (0x54 ∷ 0x51 ∷ 0x00 ∷ 0x00 ∷ 0x00 ∷ 0x00 ∷ 0x00 ∷ 0x00 ∷ 0x00 ∷ 0x00 ∷ [])
    ∷ (0x54 ∷ 0x51 ∷ 0x02 ∷ 0x00 ∷ 0x00 ∷ 0x00 ∷ 0x00 ∷ 0x00 ∷ 0x00 ∷ 0x00 ∷ [])
    ∷ (0x54 ∷ 0x51 ∷ 0x01 ∷ 0x00 ∷ 0x00 ∷ 0x00 ∷ 0x01 ∷ 0x00 ∷ 0x00 ∷ 0x00 ∷ []) ∷ []

-- the replies of one step call after another
unfoldable pub replies_from : (image state : List ℕ) → (records : List (List ℕ)) → List (List ℕ)
replies_from image state [] = []
replies_from image state (r ∷ rs) =
    let after = step image state r (area 24) in
    after.reply ∷ replies_from image after.buffers rs

-- on an image, from begin on
unfoldable pub replies_on : (image : List ℕ) → (records : List (List ℕ)) → List (List ℕ)
replies_on image rs = replies_from image (begin image (area (10 + row_count image)) (area 16)).buffers rs

unfoldable pub replies : (contract : List ℕ) → (records : List (List ℕ)) → List (List ℕ)
replies contract rs = replies_on (image_for contract) rs

-- decide's replies on the first records, 2 of them, 3 and all, and on all with a wrong mark in the last one
unfoldable pub decided_replies : (contract : List ℕ) → (records : List (List ℕ)) → List (List ℕ)
decided_replies contract rs =
    map (λ (trace : List ℕ). (decide (image_for contract) trace (area 32)).reply)
    (joined (take 2 rs) ∷ joined (take 3 rs) ∷ joined rs ∷ (joined (take 3 rs) ++ other_record) ∷ [])

pub record WatchVector : Type 0 where
  -- number, verdict, place, blame, decision period
  pub replied :
      replies watched_bytes watched_records
      ≡ reply 0 0 0 0 0 ∷ reply 0 0 0 0 0 ∷ reply 0 2 0 2 3 ∷ reply 0 4 0 2 3 ∷ []
  -- in wide records, and in narrow ones and then wide ones
  pub replied_wide :
      map (replies watched_bytes) (watched_wide ∷ (take 2 watched_records ++ drop 2 watched_wide) ∷ [])
      ≡ replicate 2 (reply 0 0 0 0 0 ∷ reply 0 0 0 0 0 ∷ reply 0 2 0 2 3 ∷ reply 0 4 0 2 3 ∷ [])
  -- number, outcome, place, blame, decision period, records read
  pub decided : decided_replies watched_bytes watched_records ≡ decide_reply 0 0 0 0 0 2 ∷ replicate 3 (decide_reply 0 2 0 2 3 3)
  pub decided_wide : (decide (image_for watched_bytes) (joined watched_wide) (area 32)).reply ≡ decide_reply 0 2 0 2 3 3
  -- a duty of action 31: both parties try it; all that a narrow record can try
  pub upper_action : map (replies (six 1 1 31)) (((0x54 ∷ 0x51 ∷ 0 ∷ 0 ∷ 0 ∷ 0x80 ∷ 0 ∷ 0 ∷ 0 ∷ 0x80 ∷ []) ∷ []) ∷ ((0x54 ∷ 0x50 ∷ replicate 4 0xff) ∷ []) ∷ [])
      ≡ (reply 0 1 0 0 1 ∷ []) ∷ (reply 0 2 0 1 1 ∷ []) ∷ []

-- "the decision period, or the trace's record count when undecided", of 5 records
pub record DecisionVectors : Type 0 where
  pub records : map (λ (d : Decision). records_for d 5) (undecided ∷ satisfied 3 ∷ violated 4 (only party1) ∷ []) ≡ 5 ∷ 3 ∷ 4 ∷ []

-- ---- an image that was compiled before endings could begin in any period: it goes on as it is

-- until (repeat (duty 1 a), tries 1 b), and a/a, ab/a, -/-
abbrev pub notice_bytes : List ℕ
notice_bytes = joined (six 1 1 0 ∷ six 7 0 0 ∷ six 17 1 1 ∷ six 9 0 0 ∷ [])

abbrev pub notice_records : List (List ℕ)
notice_records =
    (0x54 ∷ 0x50 ∷ 0x01 ∷ 0x00 ∷ 0x01 ∷ 0x00 ∷ [])
    ∷ (0x54 ∷ 0x50 ∷ 0x03 ∷ 0x00 ∷ 0x01 ∷ 0x00 ∷ [])
    ∷ (0x54 ∷ 0x50 ∷ 0x00 ∷ 0x00 ∷ 0x00 ∷ 0x00 ∷ []) ∷ []

-- the image that was compiled of it then: the expression's rows start with the `until` alone
abbrev pub earlier_image : List ℕ
earlier_image =
    joined
    (row 0 0 0 ∷ row 1 0 0 ∷ row 3 1 0
    ∷ row 6 25 0 ∷ row 3 3 0 ∷ row 4 2 4
    ∷ row 2 1 1 ∷ row 4 1 6
    ∷ row 6 16 0 ∷ row 4 5 8 ∷ row 3 8 0 ∷ row 4 5 10 ∷ row 5 1 9
    ∷ row 2 1 0 ∷ row 2 2 0 ∷ row 4 12 13 ∷ row 4 15 14 ∷ row 3 13 0 ∷ row 4 12 17 ∷ row 3 14 0 ∷ row 4 15 19
    ∷ row 5 18 20 ∷ row 3 21 0 ∷ row 4 7 22 ∷ row 5 0 23 ∷ row 5 24 21
    ∷ end 24 18 20 ∷ [])

pub record EarlierVectors : Type 0 where
  -- as it answered: not accepted in period 1, it never is, and party 1 breaks the duty in period 3
  pub earlier_answers : replies_on earlier_image notice_records ≡ reply 0 0 0 0 0 ∷ reply 0 0 0 0 0 ∷ reply 0 2 0 1 3 ∷ []
  pub earlier_decided : (decide earlier_image (joined notice_records) (area 32)).reply ≡ decide_reply 0 2 0 1 3 3
  -- the image that is compiled now: met in period 2
  pub answers_now : replies notice_bytes notice_records ≡ reply 0 0 0 0 0 ∷ reply 0 1 0 0 2 ∷ reply 0 3 0 0 2 ∷ []
  pub decided_now : (decide (image_for notice_bytes) (joined notice_records) (area 32)).reply ≡ decide_reply 0 1 0 0 2 2

-- ---- the rows of deadlines, of joint duties and of `until`, and the room for rows

pub record RowVectors : Type 0 where
  -- kind and fields of each row: the fixed rows, the deadline's six before its window's rows and six after them
  pub rows_of_window_1 :
      image_for (six_with 10 1 0 1)
      ≡ joined
      (row 0 0 0 ∷ row 1 0 0 ∷ row 3 1 0
      ∷ row 2 1 0 ∷ row 2 2 0 ∷ row 4 3 4 ∷ row 3 5 0 ∷ row 4 2 6 ∷ row 4 1 6
      ∷ row 4 2 0 ∷ row 5 1 9 ∷ row 4 10 5 ∷ row 3 3 0 ∷ row 4 8 12 ∷ row 4 8 3
      ∷ end 11 13 14 ∷ [])
  -- of party 2, with three rows for each of periods 2 and 3
  pub rows_of_window_3 :
      image_for (six_with 10 2 1 3)
      ≡ joined
      (row 0 0 0 ∷ row 1 0 0 ∷ row 3 1 0
      ∷ row 2 2 1 ∷ row 2 1 1 ∷ row 4 3 4 ∷ row 3 5 0 ∷ row 4 2 6 ∷ row 4 1 6
      ∷ row 6 8 0 ∷ row 5 0 9 ∷ row 4 7 9
      ∷ row 6 11 0 ∷ row 5 10 12 ∷ row 4 7 12
      ∷ row 4 2 13 ∷ row 5 1 15 ∷ row 4 16 5 ∷ row 3 3 0 ∷ row 4 14 18 ∷ row 4 14 3
      ∷ end 17 20 19 ∷ [])
  -- as many as party 1's duty has, of which the last differs: `row 4 1 9` for `row 4 5 9`
  pub rows_of_joint :
      image_for (six 1 3 2)
      ≡ joined
      (row 0 0 0 ∷ row 1 0 0 ∷ row 3 1 0
      ∷ row 2 1 2 ∷ row 2 2 2 ∷ row 4 1 3 ∷ row 4 5 4 ∷ row 3 3 0 ∷ row 4 1 7 ∷ row 3 4 0 ∷ row 4 1 9
      ∷ end 6 8 10 ∷ [])
  -- party 2's duty, which tests party 2 first
  pub rows_of_duty_2 :
      image_for (six 1 2 2)
      ≡ joined
      (row 0 0 0 ∷ row 1 0 0 ∷ row 3 1 0
      ∷ row 2 2 2 ∷ row 2 1 2 ∷ row 4 1 3 ∷ row 4 5 4 ∷ row 3 3 0 ∷ row 4 1 7 ∷ row 3 4 0 ∷ row 4 5 9
      ∷ end 6 10 8 ∷ [])
  -- rows 6 to 8 tell that the `until` reads, and the expression's rows 9 and 10 start with row 8 for row 1
  pub rows_of_until :
      image_for notice_bytes
      ≡ joined
      (row 0 0 0 ∷ row 1 0 0 ∷ row 3 1 0
      ∷ row 6 28 0 ∷ row 3 3 0 ∷ row 4 2 4 ∷ row 6 8 0 ∷ row 4 5 6 ∷ row 5 7 1
      ∷ row 2 1 1 ∷ row 4 8 9
      ∷ row 6 19 0 ∷ row 4 5 11 ∷ row 3 11 0 ∷ row 4 5 13 ∷ row 5 1 12
      ∷ row 2 1 0 ∷ row 2 2 0 ∷ row 4 15 16 ∷ row 4 18 17 ∷ row 3 16 0 ∷ row 4 15 20 ∷ row 3 17 0 ∷ row 4 18 22
      ∷ row 5 21 23 ∷ row 3 24 0 ∷ row 4 10 25 ∷ row 5 0 26 ∷ row 5 27 24
      ∷ end 27 21 23 ∷ [])
  pub row_counts : map (λ (d : ℕ). row_count (image_for (six_with 10 1 0 d))) (1 ∷ 2 ∷ 3 ∷ 15 ∷ []) ≡ 15 ∷ 18 ∷ 21 ∷ 57 ∷ []
  -- the most that 64 records have: 32 deadlines of 15 periods each, 31 times `both`, and `repeat`
  pub most_rows :
      row_count (image_for (joined (replicate 32 (six_with 10 1 0 15) ++ replicate 31 (six 4 0 0) ++ (six 7 0 0 ∷ [])))) ≡ 2170

-- without windows, and with a window of 1 period or 64 of 15
pub record RoomVectors : Type 0 where
  -- "1 to 2,112 rows"; "5,952 rows"
  pub rows_for_64 : map allowed_for (joined (replicate 64 (six 1 1 0)) ∷ joined (replicate 64 (six_with 10 1 0 15)) ∷ []) ≡ 2112 ∷ 5952 ∷ []
  -- "A buffer of 776 bytes takes one record"; 8 × (32 + 65 + 4)
  pub bytes_for_1 : map buffer_for (six 1 1 0 ∷ six_with 10 1 0 1 ∷ []) ≡ 776 ∷ 808 ∷ []
  pub bytes_for_64 : map buffer_for (joined (replicate 64 (six 1 1 0)) ∷ joined (replicate 64 (six_with 10 1 0 15)) ∷ []) ≡ 16904 ∷ 47624 ∷ []
