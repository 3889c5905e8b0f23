-- `report::Text::put_decided` meets its contract: the words and the number are put one behind the other.
use native.Mathlib.Omega.{arith}
use Rattle.report.specs.Texts.{decided_line}
use Rattle.report.proofs.Texts.{appended, grown, length_decided}
use Rattle.report.proofs.Text.put_decided.Goals as goal

pub put-requires : goal.put-requires
put-requires c = omega (arith, length_decided c.args.decision)

pub put_number-requires : goal.put_number-requires
put_number-requires c = omega (arith, length_decided c.args.decision, grown c.put.ensures)

pub end_line-requires : goal.end_line-requires
end_line-requires c = omega (arith, length_decided c.args.decision, grown c.put.ensures, grown c.put_number.ensures)

pub returns : goal.returns
unfolding decided_line
returns c = appended _ _ (appended _ _ c.put.ensures c.put_number.ensures) c.end_line.ensures
