use Rattle.ux_script.proofs.session.follow.Given as goal

-- the trail that was just made, and the state that the kernel was given in
abbrev pub ghosts-run_lines : goal.ghosts-run_lines
ghosts-run_lines g a = record { boot = a.kernel; trail = a.trail.id }
