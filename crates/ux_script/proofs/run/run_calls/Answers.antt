use Rattle.std.proofs.Common.{rules}
use Rattle.std.proofs.lemmas.Result.{err_from_is_err_and}
use Rattle.ux_script.proofs.Runs.{makes_none}
use Rattle.ux_script.proofs.run.run_calls.Goals as goal

pub make_all-requires : goal.make_all-requires
make_all-requires g c = makes_none c.in-Ok.serial _ c.args.kernel c.in-Ok.ensures c.requires.boots c.requires.processes

pub returns-in_err-make_all-clause-stranger : goal.returns-in_err-make_all-clause-stranger
returns-in_err-make_all-clause-stranger g c =
    let p = err_from_is_err_and c.from_residual.result c.from_residual.ensures.1 in
    rw (p.1, p.2) c.in_err-make_all.ensures.stranger

pub returns-clause-calls : goal.returns-clause-calls
returns-clause-calls g c = search rules
