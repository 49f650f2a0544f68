use Rattle.ux_names.proofs.FreeNames.{free_name_found}
use Rattle.ux_names.proofs.abstract_names.AbstractNames.lowest_free.Goals as goal

pub returns-clause-name : goal.returns-clause-name
returns-clause-name c = rw (← c.self.view_is)
    (free_name_found c.self.inside.listing.names c.self.inside.numbers c.first_free.result c.self.invariant c.first_free.ensures)
