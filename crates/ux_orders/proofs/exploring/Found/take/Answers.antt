use Rattle.std.proofs.Common.{sym, ◌∙◌}
use Rattle.ux_orders.specs.Walks.{Takes}
use Rattle.ux_orders.proofs.Walking.{ok_both}
use Rattle.ux_orders.proofs.exploring.Found.take.Goals as goal

pub returns : goal.returns
returns c =
    ok_both c.add.result (λ keeps count. Takes.kept (sym c.is_broken_off.ensures ∙ c.if-is_broken_off.false) keeps count)
    c.add.ensures.keeps
    c.add.ensures.count
