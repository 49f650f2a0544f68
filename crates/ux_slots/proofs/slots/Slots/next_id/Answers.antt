use Rattle.std.proofs.Common.{sym, ◌∙◌}
use Rattle.std.proofs.lemmas.List.FromFn.{length-map-range_with_len}
use Rattle.ux_slots.proofs.slots.Slots.next_id.Goals as goal

pub returns : goal.returns
returns g c = c.new.ensures ∙ rw (← c.self.view_is) (sym (length-map-range_with_len _ 0 c.self.inside.next))
