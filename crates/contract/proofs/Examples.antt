-- The worked examples hold of the definitions, by computation.
use mathlib.Core.Path.{refl}
use Rattle.periods.specs.Periods.{tries, succeeds, bit}
use Rattle.contract.specs.Expressions.{holds, splits, joins, member, begins, holds_empty}
use Rattle.contract.specs.Readings.{reading_to, reading, ends, acceptance_to, acceptance}
use Rattle.contract.specs.Meaning.{repeat_meaning, first_success, meaning}
use Rattle.contract.specs.Examples.{WorkedExamples, StudentExamples, ExpressionExamples, ClauseExamples, VerdictExamples, DeadlineExamples, JointExamples, EndingExamples}

pub examples : WorkedExamples × StudentExamples × ExpressionExamples × ClauseExamples × VerdictExamples × DeadlineExamples × JointExamples × EndingExamples
unfolding meaning repeat_meaning first_success reading reading_to acceptance acceptance_to ends member begins holds_empty splits joins holds tries succeeds bit
examples = (
  record {
    duty_on_none = refl;
    duty_by_both = refl;
    duty_by_other = refl;
    duty_by_nobody = refl;
    duty_alone = refl;
    power_alone = refl;
    power_by_other = refl;
    ban_by_both = refl;
    both_blamed = refl;
    both_once = refl;
    repaired = refl;
    repeated = refl;
    when_rejected = refl;
    until_accepted = refl;
    until_violated = refl;
  },
  record {
    no_later_blame = refl;
    no_living_half = refl;
    no_living_clause = refl;
    then_starts_after = refl;
    repair_starts_after = refl;
    violation_first = refl;
  },
  record {
    any_in = refl;
    tries1_in = refl;
    tries2_in = refl;
    idle1_in = refl;
    idle2_in = refl;
    succeeds_in = refl;
    fails_in = refl;
    tries1_b = refl;
    tries2_b = refl;
    idle1_b = refl;
    idle2_b = refl;
    succeeds_b = refl;
    fails_b = refl;
    one_period_each = refl;
    one_period_tried = refl;
    seq_in = refl;
    or_in = refl;
    or_left_goes_on = refl;
    or_right_goes_on = refl;
    star_in = refl;
    seq_longer = refl;
    star_longer = refl;
    accepted_once = refl;
    empty_in = refl;
  },
  record {
    duty2 = refl;
    ban1 = refl;
    ban2 = refl;
    power1 = refl;
    power2 = refl;
    duty2_b = refl;
    ban2_b = refl;
    power2_b = refl;
    both_right_first = refl;
    both_left_alone = refl;
    both_right_alone = refl;
    both_left_open = refl;
    both_right_open = refl;
    both_blames = refl;
    both_blames_later = refl;
    both_at_right = refl;
    both_at_left = refl;
    then_decides = refl;
    repair_decides = refl;
    repeat_anew = refl;
    repeat_never = refl;
    repeat_first = refl;
    when_pending = refl;
    when_accepted = refl;
    when_rejected_later = refl;
    until_own = refl;
    until_over = refl;
  },
  record {
    met_at_2 = refl;
    broken_at_2 = refl;
    broken_by_both = refl;
    outcomes = refl;
    watched = refl;
  },
  record {
    met_in_window = refl;
    open_in_window = refl;
    missed1 = refl;
    missed2 = refl;
    nothing_after = refl;
    window_of_1 = refl;
    window_of_15 = refl;
    begun_anew = refl;
    no_living_window = refl;
    no_living_success = refl;
    no_living_deadline = refl;
    repaired_after_window = refl;
    begun_later = refl;
    accepted_in_window = refl;
    told_missed = refl;
  },
  record {
    joint_blames = refl;
    joint_action = refl;
    joint_once = refl;
    joint_united = refl;
    joint_united_both = refl;
    joint_no_later_blame = refl;
    joint_then = refl;
    joint_repaired = refl;
    joint_repairs = refl;
    joint_repeated = refl;
    joint_when = refl;
    joint_until = refl;
    told_joint = refl;
  },
  record {
    notice_in_2 = refl;
    notice_from_2 = refl;
    once_accepted = refl;
    later_completes = refl;
    ends_before_first = refl;
    never_rejected = refl;
    violated_at_acceptance = refl;
    violated_at_end = refl;
    decided_before_end = refl;
    not_of_last_round = refl;
    not_before_begun = refl;
    when_from_first = refl;
    when_not_from_2 = refl;
    told_ended = refl;
  },
)
