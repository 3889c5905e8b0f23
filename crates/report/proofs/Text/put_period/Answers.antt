-- `report::Text::put_period` meets its contract: numbers, name and words are put one behind the other.
use native.Mathlib.Omega.{arith}
use mathlib.Core.Path.{ap}
use lib.ListN.{length}
use Rattle.report.specs.Texts.{period_line}
use Rattle.report.proofs.Texts.{appended, grown, length_period}
use Rattle.report.proofs.Text.put_period.Goals as goal

pub put_number-requires : goal.put_number-requires
put_number-requires c = let s = c.args.seen in omega (arith, length_period c.args.n s.verdict s.blame)

pub put-requires : goal.put-requires
put-requires c =
    let s = c.args.seen in
    omega (arith, length_period c.args.n s.verdict s.blame, grown c.put_number.ensures)

pub put-requires-2 : goal.put-requires-2
put-requires-2 c =
    let s = c.args.seen in
    omega (arith, length_period c.args.n s.verdict s.blame, grown c.put_number.ensures, grown c.put.ensures, ap length c.verdict_name.ensures)

pub put-requires-3 : goal.put-requires-3
put-requires-3 c =
    let s = c.args.seen in
    omega (arith, length_period c.args.n s.verdict s.blame, grown c.put_number.ensures, grown c.put.ensures, grown c.put-2.ensures, ap length c.verdict_name.ensures)

pub put_number-requires-2 : goal.put_number-requires-2
put_number-requires-2 c =
    let s = c.args.seen in
    omega (
      arith,
      length_period c.args.n s.verdict s.blame,
      grown c.put_number.ensures,
      grown c.put.ensures,
      grown c.put-2.ensures,
      grown c.put-3.ensures,
      ap length c.verdict_name.ensures,
    )

pub put-requires-4 : goal.put-requires-4
put-requires-4 c =
    let s = c.args.seen in
    omega (
      arith,
      length_period c.args.n s.verdict s.blame,
      grown c.put_number.ensures,
      grown c.put.ensures,
      grown c.put-2.ensures,
      grown c.put-3.ensures,
      grown c.put_number-2.ensures,
      ap length c.verdict_name.ensures,
    )

pub returns : goal.returns
unfolding period_line
returns c =
    rw (← c.verdict_name.ensures) (
    appended _ _
    (appended _ _ (appended _ _ (appended _ _ (appended _ _ c.put_number.ensures c.put.ensures) c.put-2.ensures) c.put-3.ensures) c.put_number-2.ensures)
    c.put-4.ensures)
