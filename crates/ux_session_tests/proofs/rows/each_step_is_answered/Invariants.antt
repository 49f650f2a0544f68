use Rattle.ux_session_tests.proofs.rows.each_step_is_answered.Given as goal

-- the trail that was just made, and the state that the kernel was booted in
abbrev pub ghosts-expect_row : goal.ghosts-expect_row
ghosts-expect_row g a = record { boot = a.kernel; trail = a.trail.id }
