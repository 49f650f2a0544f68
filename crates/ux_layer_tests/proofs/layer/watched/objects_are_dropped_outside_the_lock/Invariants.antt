use Rattle.ux_layer_tests.proofs.layer.watched.objects_are_dropped_outside_the_lock.Given as goal

-- the trail that was just made, and the state that the kernel was booted in
abbrev pub ghosts-drop_objects : goal.ghosts-drop_objects
ghosts-drop_objects g a = record { boot = a.kernel; trail = a.trail.id }
