use Rattle.std.proofs.Common.{◌≡◌, ◌+◌, None, sym, ap, subst, refl, ◌∙◌}
use Rattle.std.specs.Map.{lookup}
use Rattle.indexmap.proofs.CallerLemmas.{insert_entry-new}
use Rattle.ux_model.specs.Names.{same_name}
use Rattle.ux_names.specs.Order.{in_order, AreNumbered}
use Rattle.ux_names.proofs.Ordering.{absent_from_map, bound_in_order, bound_numbered}
use Rattle.ux_names.proofs.listing.Listing.bind_reserved.Goals as goal

pub invariant_of-self : goal.invariant_of-self
invariant_of-self g c =
    let name = c.args.name in
    let es = c.self.inside.bound.entries in
    let next = c.self.inside.next in
    let free : lookup (same_name name) es ≡ None =
    absent_from_map name es next c.self.invariant.0 c.self.invariant.1 (rw (← c.self.view_is) at c.requires.free) in
    let entries = c.in-Ok.ensures.entries ∙ insert_entry-new same_name c.self.inside.bound name _ free in
    (c.insert.ensures.unique, subst (λ l. AreNumbered l (next + 1)) (sym entries) (bound_numbered es next c.self.invariant.1 name _ refl))

pub returns-clause-names : goal.returns-clause-names
returns-clause-names g c =
    let name = c.args.name in
    let es = c.self.inside.bound.entries in
    let next = c.self.inside.next in
    let free : lookup (same_name name) es ≡ None =
    absent_from_map name es next c.self.invariant.0 c.self.invariant.1 (rw (← c.self.view_is) at c.requires.free) in
    let entries = c.in-Ok.ensures.entries ∙ insert_entry-new same_name c.self.inside.bound name _ free in
    rw (← c.self.view_is) (ap (λ l. in_order l (next + 1)) entries ∙ bound_in_order es next c.self.invariant.1 name _ refl)
