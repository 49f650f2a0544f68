use Rattle.ux_model.specs.Types.{Request}
use Rattle.ux_orders.proofs.Crewing.{calling, crew_exited, crew_kept, outcome}
use Rattle.ux_orders.proofs.crew.Crew.exit.Goals as goal

pub invariant_of-self : goal.invariant_of-self
invariant_of-self g c =
    let old = c.self.inside.serial in
    let lines = c.self.inside.lines.now in
    let xs = c.self.inside.places.items in
    let by = calling old c.args.self.now lines xs c.args.pid Request.Exit c.self.view_is c.self.invariant
    c.entries-entries.ensures.legal c.requires.asked in
    outcome c.exit.result
    (λ a. crew_exited old c.exit.new.self lines xs c.args.pid by a)
    (λ same. crew_kept old c.exit.new.self lines xs c.self.invariant same)
    c.exit.ensures.made c.exit.ensures.same
