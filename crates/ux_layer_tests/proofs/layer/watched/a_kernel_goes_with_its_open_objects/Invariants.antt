use Rattle.ux_layer_tests.proofs.layer.watched.a_kernel_goes_with_its_open_objects.Given as goal

-- the trail that was just made, and the state that the kernel was booted in
abbrev pub ghosts-abandon : goal.ghosts-abandon
ghosts-abandon g a = record { boot = a.kernel; trail = a.trail.id }
