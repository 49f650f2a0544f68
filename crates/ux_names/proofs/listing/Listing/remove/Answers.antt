use Rattle.std.proofs.Common.{sym, ap, subst, ◌∙◌}
use Rattle.std.specs.Option.{option_map}
use Rattle.ux_names.specs.Order.{in_order, AreNumbered}
use Rattle.ux_names.proofs.Ordering.{named_in_order, removed_in_order, removed_numbered}
use Rattle.ux_names.proofs.listing.Listing.remove.Goals as goal

pub invariant_of-self : goal.invariant_of-self
invariant_of-self g c =
    let es = c.self.inside.bound.entries in
    let next = c.self.inside.next in (
      c.swap_remove.ensures.unique,
      subst (λ l. AreNumbered l next) (sym c.swap_remove.ensures.entries)
          (removed_numbered c.args.name.now es next c.self.invariant.0 c.self.invariant.1),
    )

pub invariant_of-self-2 : goal.invariant_of-self-2
invariant_of-self-2 g c =
    let es = c.self.inside.bound.entries in
    let next = c.self.inside.next in (
      c.swap_remove.ensures.unique,
      subst (λ l. AreNumbered l next) (sym c.swap_remove.ensures.entries)
          (removed_numbered c.args.name.now es next c.self.invariant.0 c.self.invariant.1),
    )

pub returns-in_err-binding-clause-value : goal.returns-in_err-binding-clause-value
returns-in_err-binding-clause-value g c =
    let es = c.self.inside.bound.entries in
    let looked = sym c.swap_remove.ensures.value ∙ c.in_err-binding.was in
    rw (← c.self.view_is, c.from_residual.ensures)
    (sym (named_in_order c.args.name.now es c.self.inside.next c.self.invariant.0 c.self.invariant.1
    ∙ ap (option_map (λ b. b.value)) looked))

pub returns-in_err-binding-clause-names : goal.returns-in_err-binding-clause-names
returns-in_err-binding-clause-names g c =
    let es = c.self.inside.bound.entries in
    let next = c.self.inside.next in
    rw (← c.self.view_is) (ap (λ l. in_order l next) c.swap_remove.ensures.entries
    ∙ removed_in_order c.args.name.now es next c.self.invariant.0 c.self.invariant.1)

pub returns-clause-value : goal.returns-clause-value
returns-clause-value g c =
    let es = c.self.inside.bound.entries in
    let looked = sym c.swap_remove.ensures.value ∙ c.in_ok-binding.was in
    rw (← c.self.view_is) (sym (named_in_order c.args.name.now es c.self.inside.next c.self.invariant.0 c.self.invariant.1
    ∙ ap (option_map (λ b. b.value)) looked))

pub returns-clause-names : goal.returns-clause-names
returns-clause-names g c =
    let es = c.self.inside.bound.entries in
    let next = c.self.inside.next in
    rw (← c.self.view_is) (ap (λ l. in_order l next) c.swap_remove.ensures.entries
    ∙ removed_in_order c.args.name.now es next c.self.invariant.0 c.self.invariant.1)
