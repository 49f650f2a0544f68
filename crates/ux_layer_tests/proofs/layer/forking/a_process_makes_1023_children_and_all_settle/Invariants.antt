use Rattle.ux_layer_tests.proofs.layer.forking.a_process_makes_1023_children_and_all_settle.Given as goal

-- the trail that was just made, and the state that the kernel was booted in
abbrev pub ghosts-settle_all : goal.ghosts-settle_all
ghosts-settle_all g a = record { boot = a.kernel; trail = a.trail.id }
