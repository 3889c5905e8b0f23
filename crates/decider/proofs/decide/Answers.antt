-- `decider::decide` meets its contract: refused before a record is read, or the trace read into a state of its own.
use Rattle.std.proofs.Common.{◌≡◌, ℕ, ◌+◌, ◌≤◌, List, length, arith, refl, sym, ap, ◌∙◌}
use lib.ListN.{length-replicate}
use Rattle.records.specs.Refusals.{Passed}
use Rattle.layout.proofs.Images.{GoodImage, passed_good}
use Rattle.std.proofs.lemmas.List.{take-replicate}
use Rattle.calls.specs.Refusals.{unread_test}
use Rattle.calls.proofs.Refusals.{unread_passed}
use Rattle.decider.proofs.decide.Goals as goal

-- what passes is tested on a good image
good_image : (image trace : List ℕ) → unread_test image trace ≡ Passed → GoodImage image
good_image image trace p = passed_good image (unread_passed image trace p).0

pub row_count-bytes-requires : goal.row_count-bytes-requires
row_count-bytes-requires c =
    let good = good_image _ _ (sym c.unread_test.ensures ∙ c.in_ok-unread_test.was) in
    omega (arith, good.count)

pub overflow_add-bytes : goal.overflow_add-bytes
overflow_add-bytes c =
    let good = good_image _ _ (sym c.unread_test.ensures ∙ c.in_ok-unread_test.was) in
    omega (arith, good.few_rows, c.row_count-bytes.ensures)

pub slice_bounds-state-end : goal.slice_bounds-state-end
slice_bounds-state-end c =
    let good = good_image _ _ (sym c.unread_test.ensures ∙ c.in_ok-unread_test.was) in
    omega (arith, good.few_rows, c.row_count-bytes.ensures)

pub slice_bounds-read_trace-end : goal.slice_bounds-read_trace-end
slice_bounds-read_trace-end c =
    let good = good_image _ _ (sym c.unread_test.ensures ∙ c.in_ok-unread_test.was) in
    let few : 10 + c.row_count-bytes.result ≤ 5962 = omega (arith, good.few_rows, c.row_count-bytes.ensures) in
    sym (ap length (take-replicate (10 + c.row_count-bytes.result) 5962 0 few) ∙ length-replicate _ 0)

pub read_trace-requires-clause-state_value : goal.read_trace-requires-clause-state_value
read_trace-requires-clause-state_value c =
    let good = good_image _ _ (sym c.unread_test.ensures ∙ c.in_ok-unread_test.was) in
    let few : 10 + c.row_count-bytes.result ≤ 5962 = omega (arith, good.few_rows, c.row_count-bytes.ensures) in
    take-replicate (10 + c.row_count-bytes.result) 5962 0 few ∙ rw c.row_count-bytes.ensures refl
