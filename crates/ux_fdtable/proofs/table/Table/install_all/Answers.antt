use Rattle.std.proofs.Common.{arith, ap, length, map, sym, ◌∙◌, subst}
use Rattle.ux_model.specs.Delivery.{installed}
use Rattle.ux_fdtable.specs.Padded.{AreBelow}
use Rattle.ux_fdtable.proofs.FreePlaces.{length_of_table}
use Rattle.ux_fdtable.proofs.Installing.{installed_padded}
use Rattle.ux_fdtable.proofs.table.Table.install_all.Goals as goal

pub invariant_of-self : goal.invariant_of-self
invariant_of-self c =
    let long = ap length (sym c.self.view_is)
    ∙ length_of_table c.self.inside.places.items c.self.inside.limit c.self.inside.in_use c.self.invariant in
    let below = subst (λ limit. AreBelow limit (map (λ fd. fd.0) c.args.numbers.now)) long c.requires in
    (c.reach_all.ensures.kept c.self.inside.limit c.self.inside.in_use below c.self.invariant).0

pub fill_all-requires-clause-covered : goal.fill_all-requires-clause-covered
fill_all-requires-clause-covered c =
    let long = ap length (sym c.self.view_is)
    ∙ length_of_table c.self.inside.places.items c.self.inside.limit c.self.inside.in_use c.self.invariant in
    let below = subst (λ limit. AreBelow limit (map (λ fd. fd.0) c.args.numbers.now)) long c.requires in
    let table = (c.reach_all.ensures.kept c.self.inside.limit c.self.inside.in_use below c.self.invariant).0 in
    omega (arith, table.within, table.covered)

pub invariant_of-self-2 : goal.invariant_of-self-2
invariant_of-self-2 c =
    let long = ap length (sym c.self.view_is)
    ∙ length_of_table c.self.inside.places.items c.self.inside.limit c.self.inside.in_use c.self.invariant in
    let below = subst (λ limit. AreBelow limit (map (λ fd. fd.0) c.args.numbers.now)) long c.requires in
    c.fill_all.ensures.table c.self.inside.limit
    (c.reach_all.ensures.kept c.self.inside.limit c.self.inside.in_use below c.self.invariant).0

pub returns-clause-ok : goal.returns-clause-ok
returns-clause-ok c =
    let numbers = map (λ fd. fd.0) c.args.numbers.now in
    let long = ap length (sym c.self.view_is)
    ∙ length_of_table c.self.inside.places.items c.self.inside.limit c.self.inside.in_use c.self.invariant in
    let below = subst (λ limit. AreBelow limit numbers) long c.requires in
    let same = (c.reach_all.ensures.kept c.self.inside.limit c.self.inside.in_use below c.self.invariant).1 in
    rw c.fill_all.ensures.filled (installed_padded c.args.cloexec numbers c.args.references.now c.reach_all.new.places.items
    c.self.inside.limit c.in_ok-reach_all.ensures.reached)
    ∙ ap (installed c.args.cloexec numbers c.args.references.now) (same ∙ c.self.view_is)
