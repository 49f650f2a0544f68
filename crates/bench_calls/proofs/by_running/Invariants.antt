use Rattle.bench_calls.proofs.by_running.Given as goal

-- the trail that was just made, and the state that the kernel was booted in
abbrev pub ghosts-running_named : goal.ghosts-running_named
ghosts-running_named g a = record { boot = a.kernel; trail = a.trail.id }
