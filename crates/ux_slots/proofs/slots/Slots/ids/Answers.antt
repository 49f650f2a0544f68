use Rattle.ux_slots.proofs.Listing.{given_listed}
use Rattle.ux_slots.proofs.slots.Slots.ids.Goals as goal

pub returns : goal.returns
returns g c = rw (← c.self.view_is)
    (given_listed (λ ids. ids.items) _ _ _ _ c.self.invariant c.ids_in.result c.ids_in.ensures.there c.ids_in.ensures.rising)
