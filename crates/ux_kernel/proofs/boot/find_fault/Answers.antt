use Rattle.std.proofs.Common.{false, true, rules, refl, arith}
use Rattle.ux_kernel.proofs.Boots.{fault_told}
use Rattle.ux_kernel.proofs.boot.find_fault.Goals as goal

pub returns-then-not-are_valid : goal.returns-then-not-are_valid
returns-then-not-are_valid g c = fault_told _ g.O.FileObject.view c.args.objects.now c.args.procs.now false _ _ (omega arith) (omega arith)
    (search rules) refl refl

pub returns-then-not-are_distinct : goal.returns-then-not-are_distinct
returns-then-not-are_distinct g c = fault_told _ g.O.FileObject.view c.args.objects.now c.args.procs.now true false _ (omega arith)
    (omega arith) (search rules) (search rules) refl

pub returns-then-not-are_open : goal.returns-then-not-are_open
returns-then-not-are_open g c = fault_told _ g.O.FileObject.view c.args.objects.now c.args.procs.now true true false (omega arith)
    (omega arith) (search rules) (search rules) (search rules)

pub returns : goal.returns
returns g c = fault_told _ g.O.FileObject.view c.args.objects.now c.args.procs.now true true true (omega arith) (omega arith) (search rules)
    (search rules) (search rules)
