use Rattle.running_layer.proofs.main.Given as goal

-- the trail that was just made, and the state that the kernel was booted in
abbrev pub ghosts-run : goal.ghosts-run
ghosts-run g a = record { boot = a.kernel; trail = a.trail.id }
