use Rattle.std.proofs.Common.{◌≡◌, IfOk, List, Option, ap, sym, ◌∙◌, subst, length, map, take}
use Rattle.ux_model.specs.Process.{Descriptor, free_numbers}
use Rattle.ux_model.specs.State.{table_of}
use Rattle.ux_msg.proofs.Passing.{planned}
use Rattle.ux_msg.proofs.delivering.find_numbers.Goals as goal

pub returns : goal.returns
returns g c =
    let T : List (Option Descriptor) = table_of c.args.state.now c.args.pid.0 in
    let long : length T ≡ c.limit.result = ap length (sym c.table-table.ensures) ∙ sym c.limit.ensures in
    subst (λ ns. IfOk c.lowest_numbers.result (λ numbers. map (λ fd. fd.0) numbers.items ≡ ns))
    ((λ j. take (c.install_count-count.ensures j) (free_numbers (c.table-table.ensures j)))
    ∙ planned c.args.count c.args.space c.limit.result T long) c.lowest_numbers.ensures.numbers
