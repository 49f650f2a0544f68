use Rattle.ux_session_tests.proofs.drawn.drawn.Given as goal

-- the trail that was just made, and the state that the kernel was booted in
abbrev pub ghosts-drawn_by : goal.ghosts-drawn_by
ghosts-drawn_by a = record { boot = a.kernel; trail = a.trail.id }
