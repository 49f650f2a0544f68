use Rattle.ux_model.specs.Types.{Request}
use Rattle.ux_orders.proofs.Crewing.{calling, left_in, not_forked, own_fits, child_fits, crew_childless, crew_forked}
use Rattle.ux_orders.proofs.crew.Crew.fork.Goals as goal

pub invariant_of-self-in_default : goal.invariant_of-self-in_default
invariant_of-self-in_default g c =
    not_forked c.self.inside.serial c.fork.new.self c.self.inside.lines.now c.self.inside.places.items c.push.new.self.items
    c.self.invariant c.in_ok-push.ensures.items c.in_default.ensures.same

pub set_place-requires : goal.set_place-requires
set_place-requires g c =
    let old = c.self.inside.serial in
    let lines = c.self.inside.lines.now in
    let xs = c.self.inside.places.items in
    own_fits old lines xs c.push.new.self.items c.args.pid
    (calling old c.args.self.now lines xs c.args.pid Request.Fork c.self.view_is c.self.invariant
    c.entries-entries.ensures.legal c.requires.asked)
    c.in_ok-push.ensures.items

pub set_place-requires-in-Child : goal.set_place-requires-in-Child
set_place-requires-in-Child g c =
    child_fits c.self.inside.serial c.fork.new.self c.self.inside.lines.now c.self.inside.places.items c.push.new.self.items
    c.set_place.new.places.items c.args.pid c.in-Child.child c.in-Ok.reply c.args.behind
    c.self.invariant c.in_ok-push.ensures.items c.set_place.ensures c.in-Ok.ensures.made c.in-Child.is

pub invariant_of-self-in-Child : goal.invariant_of-self-in-Child
invariant_of-self-in-Child g c =
    let old = c.self.inside.serial in
    let lines = c.self.inside.lines.now in
    let xs = c.self.inside.places.items in
    crew_forked old c.fork.new.self lines xs c.push.new.self.items c.set_place.new.places.items c.set_place-in-Child.new.places.items
    c.args.pid c.in-Child.child c.in-Ok.reply c.args.behind
    (calling old c.args.self.now lines xs c.args.pid Request.Fork c.self.view_is c.self.invariant
    c.entries-entries.ensures.legal c.requires.asked)
    c.in_ok-push.ensures.items c.set_place.ensures c.set_place-in-Child.ensures
    (left_in old c.args.self.now lines c.args.pid c.args.behind c.self.view_is c.requires.left) c.in-Ok.ensures.made c.in-Child.is

pub invariant_of-self-in_default-reply : goal.invariant_of-self-in_default-reply
invariant_of-self-in_default-reply g c =
    let old = c.self.inside.serial in
    let lines = c.self.inside.lines.now in
    let xs = c.self.inside.places.items in
    crew_childless old c.fork.new.self lines xs c.push.new.self.items c.set_place.new.places.items c.args.pid c.in-Ok.reply c.args.behind
    (calling old c.args.self.now lines xs c.args.pid Request.Fork c.self.view_is c.self.invariant
    c.entries-entries.ensures.legal c.requires.asked)
    c.in_ok-push.ensures.items c.set_place.ensures
    (left_in old c.args.self.now lines c.args.pid c.args.behind c.self.view_is c.requires.left)
    c.in-Ok.ensures.made c.in_default-reply.not-Child
