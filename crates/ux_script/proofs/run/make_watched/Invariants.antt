use Rattle.ux_script.proofs.run.make_watched.Given as goal

-- the trail that was just made, and the state that the kernel was given in
abbrev pub ghosts-run_calls : goal.ghosts-run_calls
ghosts-run_calls g a = record { boot = a.kernel; trail = a.trail.id }
