use Rattle.std.proofs.Common.{sym, ◌∙◌}
use Rattle.ux_session.proofs.Sounding.{made_own}
use Rattle.ux_session.proofs.asking.make_or_wait.Goals as goal

pub returns-then-has_own_call-clause-made : goal.returns-then-has_own_call-clause-made
returns-then-has_own_call-clause-made g c = λ _.
    made_own c.args.serial.now c.make_call.new.serial c.args.call.now (sym c.has_own_call.ensures ∙ c.if-has_own_call.true)
    c.in_ok-make_call.ensures.made
