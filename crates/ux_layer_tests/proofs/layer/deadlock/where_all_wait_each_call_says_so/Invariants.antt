use Rattle.ux_layer_tests.proofs.layer.deadlock.where_all_wait_each_call_says_so.Given as goal

-- the trail that was just made, and the state that the kernel was booted in
abbrev pub ghosts-wait_all : goal.ghosts-wait_all
ghosts-wait_all g a = record { boot = a.kernel; trail = a.trail.id }
