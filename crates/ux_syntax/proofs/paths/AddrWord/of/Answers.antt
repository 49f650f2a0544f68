use Rattle.std.proofs.Common.{rules}
use Rattle.ux_syntax.specs.Reading.{addr_at}
use Rattle.ux_syntax.proofs.paths.AddrWord.of.Goals as goal

pub returns-in_ok-lettered_of-in_default : goal.returns-in_ok-lettered_of-in_default
unfolding addr_at
returns-in_ok-lettered_of-in_default c = search rules
