use Rattle.ux_number_sets.proofs.SetLaws.{none_in}
use Rattle.ux_number_sets.proofs.number_set.NumberSet.new.Goals as goal

pub returns : goal.returns
returns c = none_in _ c.args.capacity _ c.in_ok-new.ensures
