use Rattle.std.proofs.Common.{rules}
use Rattle.ux_script.proofs.run.finish_trace.Goals as goal

pub returns-in_err-write_trace-clause-err : goal.returns-in_err-write_trace-clause-err
returns-in_err-write_trace-clause-err g c = search rules
