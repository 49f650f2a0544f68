use Rattle.ux_laws.proofs.Inputs.{empty_queues_give_nothing}
use Rattle.ux_laws.proofs.empty_queues_give_nothing.Goals as goal

pub returns : goal.returns
returns c = empty_queues_give_nothing
