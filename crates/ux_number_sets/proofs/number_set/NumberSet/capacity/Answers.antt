use Rattle.std.proofs.Common.{sym}
use Rattle.ux_number_sets.proofs.SetLaws.{set_length}
use Rattle.ux_number_sets.proofs.number_set.NumberSet.capacity.Goals as goal

pub returns : goal.returns
returns c = rw (← c.self.view_is) (sym (set_length c.self.inside.words c.self.inside.capacity))
