use Rattle.std.proofs.Common.{◌∙◌}
use Rattle.std.proofs.lemmas.Result.{err_from_is_err_and}
use Rattle.ux_script.proofs.Runs.{ok_then}
use Rattle.ux_script.proofs.run.make_all.Goals as goal

pub returns-in_err-make_calls-clause-stranger : goal.returns-in_err-make_calls-clause-stranger
returns-in_err-make_calls-clause-stranger g c =
    let p = err_from_is_err_and c.from_residual.result c.from_residual.ensures.1 in
    rw (p.1, p.2) c.in_err-make_calls.ensures.stranger

pub returns-clause-boot : goal.returns-clause-boot
returns-clause-boot g c = ok_then c.make_rest.result (λ same. same ∙ c.in_ok-make_calls.ensures.boot) c.make_rest.ensures.boot
