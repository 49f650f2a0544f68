use Rattle.std.proofs.lemmas.Result.{err_from_is_err_and}
use Rattle.ux_script.proofs.Following.{breaks_on, breaks_from_start}
use Rattle.ux_script.proofs.Runs.{makes_none}
use Rattle.ux_script.proofs.session.run_lines.Goals as goal

pub follow_all-requires : goal.follow_all-requires
follow_all-requires g c =
    makes_none c.in-Ok.serial c.args.reader.now c.args.kernel c.in-Ok.ensures c.requires.boots c.requires.processes

pub returns-in_err-follow_all-clause-front : goal.returns-in_err-follow_all-clause-front
returns-in_err-follow_all-clause-front g c =
    let front = breaks_from_start c.in-Ok.serial c.args.kernel _ _ c.in-Ok.ensures c.in_err-follow_all.ensures.broken in
    let p = err_from_is_err_and c.from_residual.result c.from_residual.ensures.1 in
    rw p.1 front

pub returns-in_err-finish-clause-front : goal.returns-in_err-finish-clause-front
returns-in_err-finish-clause-front g c =
    let broken = breaks_on _ _ _ _ _ _ _ c.in_ok-follow_all.ensures.boot c.in_ok-follow_all.ensures.printed
    c.in_err-finish.ensures.broken in
    let front = breaks_from_start c.in-Ok.serial c.args.kernel _ _ c.in-Ok.ensures broken in
    let p = err_from_is_err_and c.from_residual-in_err-finish.result c.from_residual-in_err-finish.ensures.1 in
    rw p.1 front
