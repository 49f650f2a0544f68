use Rattle.std.proofs.Common.{sym, ◌∙◌}
use Rattle.ux_names.proofs.NameLaws.{nothing_without}
use Rattle.ux_names.proofs.FreeNames.{released_free}
use Rattle.ux_names.proofs.abstract_names.AbstractNames.release.Goals as goal

pub invariant_of-self : goal.invariant_of-self
invariant_of-self c =
    let absent = sym c.remove.ensures.value ∙ c.in_err-id.was in
    rw (c.remove.ensures.names, nothing_without c.args.name.now c.self.inside.listing.names absent) c.self.invariant

pub invariant_of-self-2 : goal.invariant_of-self-2
invariant_of-self-2 c = rw c.remove.ensures.names
    (released_free c.self.inside.listing.names c.args.name.now c.self.inside.numbers c.remove_number.new.numbers c.self.invariant
    c.remove_number.ensures)
