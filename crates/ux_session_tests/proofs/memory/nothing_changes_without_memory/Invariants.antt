use Rattle.ux_session_tests.proofs.memory.nothing_changes_without_memory.Given as goal

-- the trail that was just made, and the state that the kernel was booted in
abbrev pub ghosts-expect_refusals : goal.ghosts-expect_refusals
ghosts-expect_refusals g a = record { boot = a.kernel; trail = a.trail.id }
