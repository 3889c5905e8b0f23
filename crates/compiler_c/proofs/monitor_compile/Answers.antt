-- `compiler_c::monitor_compile` meets its contract, which is that of the call.
use Rattle.compiler_c.proofs.monitor_compile.Goals as goal

pub returns : goal.returns
returns c = c.monitor_compile.ensures
