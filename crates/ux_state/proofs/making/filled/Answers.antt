use Rattle.std.proofs.Common.{length, ap, arith}
use Rattle.ux_state.proofs.Links.{next_file}
use Rattle.ux_state.proofs.making.filled.Goals as goal

pub bind_file-requires-clause-new : goal.bind_file-requires-clause-new
bind_file-requires-clause-new g c =
    next_file c.args.objects.items _ _ c.loop-name.paths.names _ (c.in-Some.name, c.in-Some.object) c.in-Some.ensures.steps.0
    c.loop-name.invariant.7 c.requires.own_paths

pub unreachable-requires : goal.unreachable-requires
unreachable-requires g c =
    let one = ap length c.in-Some.ensures.steps.0 in
    let rooms = c.loop-name.invariant.3 in
    absurd (omega (arith, one, rooms, c.in_default.ensures.cases.0))
