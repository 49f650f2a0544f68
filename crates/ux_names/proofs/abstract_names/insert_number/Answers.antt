use Rattle.std.proofs.lemmas.Result.{on_ok_weaker}
use Rattle.ux_names.proofs.FreeNames.{number_put}
use Rattle.ux_names.proofs.abstract_names.insert_number.Goals as goal

pub returns-in-Some-clause-ok : goal.returns-in-Some-clause-ok
returns-in-Some-clause-ok c = on_ok_weaker c.insert.result
    (number_put c.args.numbers.now c.insert.new.self c.args.name.now c.in-Some.number _ c.in-Some.ensures.0 c.in-Some.ensures.1)
    c.insert.ensures.ok
