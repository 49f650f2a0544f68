use Rattle.ux_layer_tests.proofs.layer.forking.children_settle_alike_where_nothing_is_kept.Given as goal

-- the trail that was just made, and the state that the kernel was booted in
abbrev pub ghosts-settle_counted : goal.ghosts-settle_counted
ghosts-settle_counted g a = record { boot = a.kernel; trail = a.trail.id }
