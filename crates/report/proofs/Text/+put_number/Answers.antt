-- `report::Text::put_number` meets its contract: the last digit is put behind the others, which are those of a tenth.
use Prim.Native.Nat.{ℕ, ◌/◌, ◌%◌, ◌<◌}
use native.Mathlib.Nat.{div-lt_self}
use native.Mathlib.Omega.{arith}
use mathlib.Core.List.{[], ◌∷◌}
use mathlib.Core.Path.{◌≡◌, ap, ◌∙◌}
use Rattle.report.specs.Texts.{digit, decimal}
use Rattle.report.proofs.Texts.{appended, grown, decimal_one, decimal_more, length_decimal_one, length_decimal_more}
use Rattle.report.proofs.Text.+put_number.Goals as goal
use Rattle.report.proofs.Text.+put_number.Goals.{then-n-ge10, else-n-ge10}

pub put_number-requires : goal.put_number-requires
put_number-requires t c =
    let l : c.args.n / 10 < c.args.n = div-lt_self (omega arith) (omega arith) in
    (omega arith, omega (arith, c.requires, length_decimal_more c.args.n c.if-n-ge10.true))

pub put-requires : goal.put-requires
put-requires t c =
    let n = c.args.n in
    elim c.if-n-ge10.branch [
      | then-n-ge10 w ↦ rw w.self-is (omega (arith, length_decimal_more n w.if-n-ge10.true, grown w.put_number.ensures))
      | else-n-ge10 w ↦ rw w.self-is (omega (arith, length_decimal_one n (omega (arith, w.if-n-ge10.false))))
    ]

pub returns : goal.returns
returns t c =
    let n = c.args.n in
    elim c.if-n-ge10.branch [
      | then-n-ge10 w ↦
          let d = digit (n % 10) ∷ [] in
          rw (decimal_more n w.if-n-ge10.true) (appended (decimal (n / 10)) d w.put_number.ensures (rw w.self-is at c.put.ensures))
      | else-n-ge10 w ↦
          let d : n ≡ n % 10 = omega (arith, w.if-n-ge10.false) in
          rw (decimal_one n (omega (arith, w.if-n-ge10.false)) ∙ ap (λ (m : ℕ). digit m ∷ []) d) (rw w.self-is at c.put.ensures)
    ]
