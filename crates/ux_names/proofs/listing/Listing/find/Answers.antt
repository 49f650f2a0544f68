use Rattle.std.proofs.Common.{◌≡◌, Some, None, sym, ap, ◌∙◌}
use Rattle.std.specs.Option.{option_map, option_copied}
use Rattle.std.specs.Map.{lookup}
use Rattle.ux_model.specs.Names.{same_name}
use Rattle.ux_names.proofs.Ordering.{named_in_order}
use Rattle.ux_names.proofs.listing.Listing.find.Goals as goal

pub returns-in_err-binding : goal.returns-in_err-binding
returns-in_err-binding g c =
    let looked : lookup (same_name c.args.name.now) c.self.inside.bound.entries ≡ None = sym c.get.ensures.value
    ∙ ap option_copied c.in_err-binding.was in
    rw (← c.self.view_is, c.from_residual.ensures)
    (sym (named_in_order c.args.name.now c.self.inside.bound.entries c.self.inside.next c.self.invariant.0 c.self.invariant.1
    ∙ ap (option_map (λ b. b.value)) looked))

pub returns : goal.returns
returns g c =
    let looked : lookup (same_name c.args.name.now) c.self.inside.bound.entries ≡ Some c.in_ok-binding.binding.now = sym c.get.ensures.value
    ∙ ap option_copied c.in_ok-binding.was in
    rw (← c.self.view_is) (sym (named_in_order c.args.name.now c.self.inside.bound.entries c.self.inside.next c.self.invariant.0
    c.self.invariant.1 ∙ ap (option_map (λ b. b.value)) looked))
