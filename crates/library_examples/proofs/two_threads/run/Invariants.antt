use Rattle.library_examples.proofs.two_threads.run.Given as goal

-- the trail that was just made, and the state that the kernel was booted in
abbrev pub ghosts-run_threads : goal.ghosts-run_threads
ghosts-run_threads g a = record { boot = a.kernel; trail = a.trail.id }
