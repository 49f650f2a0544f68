use Rattle.ux_layer_tests.proofs.layer.watched.a_write_wakes_a_read.Given as goal

-- the trail that was just made, and the state that the kernel was booted in
abbrev pub ghosts-wake : goal.ghosts-wake
ghosts-wake g a = record { boot = a.kernel; trail = a.trail.id }
