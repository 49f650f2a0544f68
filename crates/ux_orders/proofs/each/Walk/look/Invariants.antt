use Rattle.ux_orders.proofs.each.Walk.look.Given as goal

-- the trail that was just made, and the state that the kernel was given in
abbrev pub ghosts-look_named : goal.ghosts-look_named
ghosts-look_named g a = record { boot = a.kernel; trail = a.trail.id }
