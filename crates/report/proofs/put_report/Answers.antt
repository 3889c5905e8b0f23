-- `report::put_report` meets its contract: the report is put, or what refuses it.
use native.Mathlib.Omega.{arith}
use Rattle.report.proofs.Texts.{short_refused}
use Rattle.report.proofs.put_report.Goals as goal

pub put_refused-requires : goal.put_refused-requires
put_refused-requires c =
    let r = c.in-Err.refused in
    rw c.in-Err.ensures.unchanged (omega (arith, short_refused r.number r.place (omega arith) (omega arith)))
