-- `report::Text::put_refused` meets its contract: the words and the numbers are put one behind the other.
use native.Mathlib.Omega.{arith}
use Rattle.report.specs.Texts.{refused_line}
use Rattle.report.proofs.Texts.{appended, grown, length_refused}
use Rattle.report.proofs.Text.put_refused.Goals as goal

pub put-requires : goal.put-requires
put-requires c = let r = c.args.refused in omega (arith, length_refused r.number r.place)

pub put_number-requires : goal.put_number-requires
put_number-requires c = let r = c.args.refused in omega (arith, length_refused r.number r.place, grown c.put.ensures)

pub put-requires-2 : goal.put-requires-2
put-requires-2 c =
    let r = c.args.refused in
    omega (arith, length_refused r.number r.place, grown c.put.ensures, grown c.put_number.ensures)

pub put_number-requires-2 : goal.put_number-requires-2
put_number-requires-2 c =
    let r = c.args.refused in
    omega (arith, length_refused r.number r.place, grown c.put.ensures, grown c.put_number.ensures, grown c.put-2.ensures)

pub end_line-requires : goal.end_line-requires
end_line-requires c =
    let r = c.args.refused in
    omega (
      arith,
      length_refused r.number r.place,
      grown c.put.ensures,
      grown c.put_number.ensures,
      grown c.put-2.ensures,
      grown c.put_number-2.ensures,
    )

pub returns : goal.returns
unfolding refused_line
returns c =
    appended _ _
    (appended _ _ (appended _ _ (appended _ _ c.put.ensures c.put_number.ensures) c.put-2.ensures) c.put_number-2.ensures)
    c.end_line.ensures
