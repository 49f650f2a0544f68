use Rattle.ux_orders.proofs.Crewing.{first_crew}
use Rattle.ux_orders.proofs.crew.Crew.new.Goals as goal

pub invariant_of-result : goal.invariant_of-result
invariant_of-result g c =
    first_crew c.in-Ok.serial c.args.kernel c.args.lines.now c.in_ok-places.places.items c.process_count.result
    c.in-Ok.ensures c.process_count.ensures.count c.in_ok-places.ensures
