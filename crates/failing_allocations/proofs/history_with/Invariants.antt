use Rattle.failing_allocations.proofs.history_with.Given as goal

-- the trail that was just made, and the state that the kernel was booted in
abbrev pub ghosts-run_by_seats : goal.ghosts-run_by_seats
ghosts-run_by_seats g a = record { boot = a.kernel; trail = a.trail.id }
