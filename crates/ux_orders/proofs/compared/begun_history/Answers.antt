use Rattle.ux_orders.proofs.compared.begun_history.Goals as goal

pub returns-clause-calls : goal.returns-clause-calls
returns-clause-calls c = rw c.deref.ensures.value at (c.makes_first.ensures.0 c.if-not-makes_first.false)
