use Rattle.ux_names.proofs.FreeNames.{bound_in_use}
use Rattle.ux_names.proofs.abstract_names.AbstractNames.list.Goals as goal

pub invariant_of-self-2 : goal.invariant_of-self-2
invariant_of-self-2 c =
    rw (c.bind_reserved.ensures.names, c.reserve.ensures.names)
    (bound_in_use c.self.inside.listing.names c.args.name c.self.inside.numbers c.insert_number.new.numbers c.self.invariant c.args.id
    c.in_ok-insert_number.ensures.ok)
