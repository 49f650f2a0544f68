use Rattle.std.proofs.Common.{rules}
use Rattle.ux_script.proofs.echo.finish_echo.Goals as goal

pub returns-in_err-write_echo-clause-err : goal.returns-in_err-write_echo-clause-err
returns-in_err-write_echo-clause-err g c = search rules
