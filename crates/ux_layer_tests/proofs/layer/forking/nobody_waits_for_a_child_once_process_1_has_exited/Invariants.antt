use Rattle.ux_layer_tests.proofs.layer.forking.nobody_waits_for_a_child_once_process_1_has_exited.Given as goal

-- the trail that was just made, and the state that the kernel was booted in
abbrev pub ghosts-wait_for_nobody : goal.ghosts-wait_for_nobody
ghosts-wait_for_nobody g a = record { boot = a.kernel; trail = a.trail.id }
