use Rattle.ux_model.proofs.Pedigrees.OneChain.{chain_is_one}
use Rattle.ux_model.proofs.a_holding_has_one_pedigree.Goals as goal

pub returns : goal.returns
returns c = chain_is_one
