use Rattle.std.proofs.Common.{map, sym, ap, ◌∙◌}
use Rattle.std.specs.Map.Iter.{deref_pair}
use Rattle.std.proofs.lemmas.List.{take_all}
use Rattle.ux_names.specs.Order.{shown}
use Rattle.ux_names.proofs.Ordering.{sorted_in_order, mapped_sorted, map_twice}
use Rattle.ux_names.proofs.listing.Listing.in_order.Goals as goal

pub returns : goal.returns
returns g c =
    let items = c.in_ok-entries.entries.items in
    let all = take_all c.loop-entry.entry-index c.deref-entry-items.result.now c.loop-entry-test.false
    ∙ c.deref-entry-items.ensures.value in
    rw (← c.self.view_is) (c.loop-entry.invariant ∙ ap (map (λ e. shown (deref_pair e))) all ∙ sym (map_twice deref_pair shown items)
    ∙ sorted_in_order c.self.inside.bound.entries (map deref_pair items) c.self.inside.next c.self.invariant.1 c.in_ok-entries.ensures.all
    (mapped_sorted deref_pair (λ e. e.1.number) items c.in_ok-entries.ensures.sorted))
