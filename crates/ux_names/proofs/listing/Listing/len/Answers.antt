use Rattle.std.proofs.Common.{sym, ◌∙◌}
use Rattle.ux_names.proofs.Ordering.{length_in_order}
use Rattle.ux_names.proofs.listing.Listing.len.Goals as goal

pub returns : goal.returns
returns g c = rw (← c.self.view_is) (c.len.ensures.len
    ∙ sym (length_in_order c.self.inside.bound.entries c.self.inside.next c.self.invariant.1))
