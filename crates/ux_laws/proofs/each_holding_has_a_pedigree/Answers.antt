use Rattle.ux_laws.proofs.Ways.{every_holding_has_a_pedigree}
use Rattle.ux_laws.proofs.each_holding_has_a_pedigree.Goals as goal

pub returns : goal.returns
returns c = every_holding_has_a_pedigree
