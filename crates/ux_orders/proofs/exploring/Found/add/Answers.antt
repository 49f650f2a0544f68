use Rattle.ux_orders.proofs.exploring.Found.add.Goals as goal

pub returns-clause-keeps : goal.returns-clause-keeps
returns-clause-keeps c = rw c.process_count-count.ensures at c.in_ok-keep.ensures
