use Rattle.std.proofs.Common.{arith, rules, sym, ◌∙◌}
use Rattle.ux_types.specs.ObjectLimits.{most_objects}
use Rattle.ux_kernel.proofs.Boots.{few_objects_of, most_bounded, open_of, distinct_of}
use Rattle.ux_kernel.proofs.kernel.Kernel.boot_with_seed.Goals as goal

pub new-requires-clause-few_objects : goal.new-requires-clause-few_objects
new-requires-clause-few_objects g c =
    let few = few_objects_of (most_objects c.args.most) g.O.FileObject.view c.args.objects.items c.args.procs.now
    (rw (← c.deref.ensures.value) (sym c.find_fault.ensures ∙ (search rules))) in
    omega (arith, few, most_bounded c.args.most)

pub new-requires-clause-open : goal.new-requires-clause-open
new-requires-clause-open g c = open_of (most_objects c.args.most) g.O.FileObject.view c.args.objects.items c.args.procs.now
    (rw (← c.deref.ensures.value) (sym c.find_fault.ensures ∙ (search rules)))

pub new-requires-clause-own_paths : goal.new-requires-clause-own_paths
new-requires-clause-own_paths g c = distinct_of (most_objects c.args.most) g.O.FileObject.view c.args.objects.items c.args.procs.now
    (rw (← c.deref.ensures.value) (sym c.find_fault.ensures ∙ (search rules)))

pub returns-in-Some-clause-back : goal.returns-in-Some-clause-back
returns-in-Some-clause-back g c = search rules
