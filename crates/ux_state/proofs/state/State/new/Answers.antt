use Rattle.std.proofs.Common.{arith}
use Rattle.ux_state.proofs.Made.{made, made_kept}
use Rattle.ux_state.proofs.state.State.new.Goals as goal

pub returns-clause-state : goal.returns-clause-state
returns-clause-state g c = made g.O.FileObject.view c.args.objects.items _ _ _ _ _ c.args.procs.now c.filled-files.ensures.objects
    c.new-2.ensures.places c.in-Ok-new_processes.ensures c.filled-files.ensures.paths c.in-Ok-with_seed.ensures

pub invariant_of-result : goal.invariant_of-result
invariant_of-result g c =
    made_kept g.O.FileObject.view c.args.objects.items _ _ _ _ _ _ _ _ c.args.procs.now c.filled-files.ensures.objects
    c.new-2.ensures.places c.new-2.ensures.counts c.in-Ok-new_processes.ensures c.in-Ok-none_for.ensures c.in-Ok-one_for.ensures
    c.filled-files.ensures.paths c.requires.own_paths c.in-Ok-with_seed.ensures (omega (arith, c.len-count.ensures, c.args.objects.ok.0))
    c.requires.few_objects c.requires.few_processes c.new-3.ensures c.in-Ok-new.ensures
