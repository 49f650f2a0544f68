use Rattle.ux_orders.proofs.run.run_order.Given as goal

-- the trail that was just made, and the state that the kernel was given in
abbrev pub ghosts-run_named : goal.ghosts-run_named
ghosts-run_named g a = record { boot = a.kernel; trail = a.trail.id }
