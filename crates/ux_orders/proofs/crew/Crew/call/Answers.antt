use Rattle.ux_orders.proofs.Crewing.{calling, left_in, crew_called}
use Rattle.ux_orders.proofs.crew.Crew.call.Goals as goal

pub invariant_of-self : goal.invariant_of-self
invariant_of-self g c =
    let old = c.self.inside.serial in
    let lines = c.self.inside.lines.now in
    let xs = c.self.inside.places.items in
    crew_called old c.try_call.new.self lines xs c.set_place.new.places.items c.args.pid c.args.request.now
    c.in-Ok-Some.field-0 c.in-Ok-Some.field-0-0 c.args.behind
    (calling old c.args.self.now lines xs c.args.pid c.args.request.now c.self.view_is c.self.invariant
    c.entries-entries.ensures.legal c.requires.asked)
    c.requires.call c.set_place.ensures (left_in old c.args.self.now lines c.args.pid c.args.behind c.self.view_is c.requires.left)
    c.in-Ok-Some.field-0-is c.in-Ok-Some.ensures.made c.in-Ok-Some.ensures.done
