use Rattle.std.proofs.Common.{◌<◌, ◌++◌, List, Option, map, take, drop, length, set, ap, ◌∙◌, arith}
use Rattle.ux_model.specs.Places.{place}
use Rattle.ux_model.specs.Process.{Descriptor, kept_on_exec}
use Rattle.ux_fdtable.proofs.Places.{change_here, place_of_rest}
use Rattle.ux_fdtable.proofs.table.Table.close_on_exec.Goals as goal

pub loop-number-preserved : goal.loop-number-preserved
loop-number-preserved c =
    let inside : c.loop-number.number < length c.args.self.now = omega (arith, c.limit-number-end.ensures) in
    let rest : List (Option Descriptor) = map kept_on_exec (take c.loop-number.number c.args.self.now) ++ drop c.loop-number.number
    c.args.self.now in
    c.close_one_on_exec.ensures
    ∙ ap (λ (T : List (Option Descriptor)). set T c.loop-number.number (kept_on_exec (place T c.loop-number.number)))
    c.loop-number.invariant
    ∙ ap (λ (x : Option Descriptor). set rest c.loop-number.number (kept_on_exec x))
    (place_of_rest kept_on_exec c.args.self.now c.loop-number.number inside)
    ∙ change_here kept_on_exec c.args.self.now c.loop-number.number inside
