use Rattle.std.proofs.Common.{rules}
use Rattle.ux_trace.proofs.echo.echo_text.Goals as goal

pub returns : goal.returns
returns c = search rules
