use Rattle.std.proofs.Common.{rules}
use Rattle.ux_trace.proofs.entry.entry_text.Goals as goal

pub returns : goal.returns
returns c = search rules
