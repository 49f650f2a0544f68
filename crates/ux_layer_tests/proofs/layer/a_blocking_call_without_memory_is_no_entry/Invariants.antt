use Rattle.ux_layer_tests.proofs.layer.a_blocking_call_without_memory_is_no_entry.Given as goal

-- the trail that was just made, and the state that the kernel was booted in
abbrev pub ghosts-call_without_memory : goal.ghosts-call_without_memory
ghosts-call_without_memory g a = record { boot = a.kernel; trail = a.trail.id }
