use Rattle.std.proofs.Common.{rules}
use Rattle.ux_syntax.specs.Reading.{backlog_at}
use Rattle.ux_syntax.proofs.words.I32Word.of.Goals as goal

pub returns-in_err-of : goal.returns-in_err-of
unfolding backlog_at
returns-in_err-of c = search rules

pub returns-in-Ok : goal.returns-in-Ok
unfolding backlog_at
returns-in-Ok c = search rules

pub returns-in-Err : goal.returns-in-Err
unfolding backlog_at
returns-in-Err c = search rules
