use Rattle.ux_layer_tests.proofs.layer.two_threads_wait_for_one_another.Given as goal

-- the trail that was just made, and the state that the kernel was booted in
abbrev pub ghosts-exchange : goal.ghosts-exchange
ghosts-exchange g a = record { boot = a.kernel; trail = a.trail.id }
