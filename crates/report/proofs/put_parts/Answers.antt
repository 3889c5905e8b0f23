-- `report::put_parts` meets its contract: the input too long, the contract refused, the trace refused, or its lines put.
use Rattle.std.proofs.Common.{rules}
use Rattle.report.proofs.Reports.{longer, contract_refused, trace_refused, may_follow, followed}
use Rattle.report.proofs.put_parts.Goals as goal

pub returns-in_err-require-clause-refused : goal.returns-in_err-require-clause-refused
returns-in_err-require-clause-refused c =
    let refused = longer c.args.input.now c.in_err-require.field-0.0 c.in_err-require.ensures in
    search rules

pub returns-in_err-rows-clause-refused : goal.returns-in_err-rows-clause-refused
returns-in_err-rows-clause-refused c =
    let p = c.contract_and_trace.ensures in
    let r = c.in_err-rows.field-0.0 in
    let refused = contract_refused c.args.input.now _ _ p.contract p.trace c.in_ok-require.ensures r.number r.place c.in_err-rows.ensures.refused in
    search rules

pub returns-in_err-trace_test-clause-refused : goal.returns-in_err-trace_test-clause-refused
returns-in_err-trace_test-clause-refused c =
    let p = c.contract_and_trace.ensures in
    let refused =
    trace_refused c.args.input.now _ _ p.contract p.trace c.in_ok-require.ensures c.in_ok-rows.ensures.rows c.in_err-trace_test.field-0.0 c.in_err-trace_test.ensures in
    search rules

pub follow-requires : goal.follow-requires
follow-requires c =
    let p = c.contract_and_trace.ensures in
    may_follow c.args.input.now _ _ p.contract p.trace c.in_ok-require.ensures c.in_ok-rows.ensures.rows c.in_ok-trace_test.ensures _ _ c.requires.state_len c.requires.room

pub returns-clause-puts : goal.returns-clause-puts
returns-clause-puts c =
    let p = c.contract_and_trace.ensures in
    followed c.args.input.now _ _ p.contract p.trace c.in_ok-require.ensures c.in_ok-rows.ensures.rows c.in_ok-trace_test.ensures c.follow.ensures
