use Rattle.std.proofs.Common.{List, sym, ap, ◌∙◌}
use Rattle.std.specs.List.{list_any}
use Rattle.ux_model.specs.Boot.{boot_state}
use Rattle.ux_orders.specs.declared.ran.Ran.{Ran}
use Rattle.ux_orders.specs.Outcomes.{is_deadlock}
use Rattle.delortxa.specs.Exploring.{script_of}
use Rattle.library_examples.proofs.Histories.{leaves_none}
use Rattle.library_examples.proofs.every_order.never_deadlocks.Goals as goal

pub returns : goal.returns
returns c = λ t.
    let boot = c.args.boot.now in
    let outcomes = c.in_ok-found.found.outcomes.items in
    let none = ap (λ (rans : List Ran). list_any (λ ran. is_deadlock ran) rans) (sym c.deref.ensures.value)
    ∙ sym c.has_deadlock.ensures ∙ c.if-has_deadlock.false in
    leaves_none (boot_state boot.objects boot.processes) (script_of boot.processes c.args.programs.now) outcomes
    (c.in_ok-found.ensures.all c.if-not-found.false) none
