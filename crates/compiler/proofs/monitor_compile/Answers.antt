-- `compiler::monitor_compile` meets its contract: no room for the reply, refused, or accepted.
use mathlib.Core.Path.{sym, ◌∙◌}
use Rattle.records.proofs.Refusals.{is_refused}
use Rattle.compiler.proofs.Refusals.{may_write}
use Rattle.compiler.proofs.Calls.{no_room, turned_away, served}
use Rattle.compiler.proofs.monitor_compile.Goals as goal
use Rattle.compiler.proofs.monitor_compile.Goals.{in-Ok, in-Err}

pub returns-then-reply-lt-COMPILE_REPLY_BYTES : goal.returns-then-reply-lt-COMPILE_REPLY_BYTES
returns-then-reply-lt-COMPILE_REPLY_BYTES c = no_room _ _ _ c.if-reply-lt-COMPILE_REPLY_BYTES.true

pub put_image-rows-requires : goal.put_image-rows-requires
put_image-rows-requires c = rw c.contract_records.ensures (may_write _ _ (sym c.compile_test-t.ensures ∙ c.in-Ok.is))

pub returns : goal.returns
returns c =
    let t = c.compile_test-t.ensures in
    elim c.match-t.branch [
      | in-Ok w ↦
          let i = w.put_image-rows.ensures in
          rw w.image-is
          (served _ _ _ c.if-reply-lt-COMPILE_REPLY_BYTES.false (sym t ∙ w.in-Ok.is) _ _ i.written (rw (w.rows-is, i.count, w.in-Ok.is) at c.put_head.ensures))
      | in-Err w ↦
          rw w.image-is
          (turned_away _ _ _ c.if-reply-lt-COMPILE_REPLY_BYTES.false (λ e. is_refused w.in-Err.is (t ∙ e)) _ (rw (w.rows-is, t) at c.put_head.ensures))
    ]
