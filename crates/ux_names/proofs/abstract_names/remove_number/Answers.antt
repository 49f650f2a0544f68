use Rattle.ux_names.proofs.FreeNames.{number_put}
use Rattle.ux_names.proofs.abstract_names.remove_number.Goals as goal

pub returns-in-Some : goal.returns-in-Some
returns-in-Some c = number_put c.args.numbers.now c.remove.new.self c.args.name.now c.in-Some.number _ c.in-Some.ensures.0
    c.in-Some.ensures.1 c.remove.ensures
