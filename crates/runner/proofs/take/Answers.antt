-- `runner::take` meets its contract: the answer is that of the state that the periods leave.
use Rattle.std.proofs.Common.{◌≤◌, length, arith}
use Rattle.periods.specs.Traces.{form_of, trace_periods}
use Rattle.periods.proofs.Traces.{length-periods_of}
use Rattle.machine.proofs.Steps.{later_answering, later_read}
use Rattle.runner.proofs.take.Goals as goal

pub answer_of-requires : goal.answer_of-requires
answer_of-requires c =
    let a = c.args in
    let few : length (trace_periods a.trace.now a.n) ≤ a.n = rw (length-periods_of (form_of a.trace.now) a.trace.now a.n) (omega arith) in
    rw c.take_periods.ensures (later_answering a.image.now a.state.now a.n c.requires.0 (trace_periods a.trace.now a.n) few)

pub returns-clause-answers : goal.returns-clause-answers
returns-clause-answers c =
    let a = c.args in
    let few : length (trace_periods a.trace.now a.n) ≤ a.n = rw (length-periods_of (form_of a.trace.now) a.trace.now a.n) (omega arith) in
    let read = later_read a.image.now a.state.now a.n c.requires.0 (trace_periods a.trace.now a.n) few in
    rw (c.answer_of.ensures, c.take_periods.ensures, read)
