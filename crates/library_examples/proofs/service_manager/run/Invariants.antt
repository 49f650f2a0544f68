use Rattle.library_examples.proofs.service_manager.run.Given as goal

-- the trail that was just made, and the state that the kernel was booted in
abbrev pub ghosts-manage : goal.ghosts-manage
ghosts-manage g a = record { boot = a.kernel; trail = a.trail.id }
