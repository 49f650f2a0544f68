use Rattle.ux_layer_tests.proofs.layer.a_call_that_needn_t_wait_is_answered.Given as goal

-- the trail that was just made, and the state that the kernel was booted in
abbrev pub ghosts-call_once : goal.ghosts-call_once
ghosts-call_once g a = record { boot = a.kernel; trail = a.trail.id }
