use Rattle.ux_script.proofs.Following.{breaks_after}
use Rattle.ux_script.proofs.session.follow_all.Goals as goal

pub returns-clause-broken : goal.returns-clause-broken
returns-clause-broken g c =
    breaks_after c.follow_lines.result _ _ _ _ _ _ _ c.in_ok-run_from.ensures.boot c.in_ok-run_from.ensures.printed
    c.follow_lines.ensures.broken
