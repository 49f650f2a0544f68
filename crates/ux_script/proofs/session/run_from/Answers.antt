use Rattle.std.proofs.Common.{subst}
use Rattle.ux_model.specs.State.{State}
use Rattle.ux_model.specs.History.{IsLegal}
use Rattle.ux_script.proofs.Following.{breaks_behind}
use Rattle.ux_script.proofs.session.run_from.Goals as goal

pub returns-clause-broken : goal.returns-clause-broken
returns-clause-broken g c =
    let legal =
    subst (λ (S : State). IsLegal S c.make_calls.new.serial.entries) c.in_default.ensures.boot c.in_default.ensures.made.legal in
    let begun = rw (c.entries-printed.ensures.entries, c.entries.ensures.entries) at c.print_from.ensures.begun in
    breaks_behind c.print_from.result _ _ _ c.args.serial.now.entries c.make_calls.new.serial.entries legal c.in_default.ensures.grows begun
