use Rattle.ux_number_sets.proofs.SetLaws.{set_length, none_in}
use Rattle.ux_number_sets.proofs.number_set.NumberSet.clear.Goals as goal

pub returns : goal.returns
returns c = rw (← c.self.view_is, set_length) (none_in c.clear.new.self c.self.inside.capacity _ c.clear.ensures)
