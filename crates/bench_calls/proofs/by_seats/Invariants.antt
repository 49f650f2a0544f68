use Rattle.bench_calls.proofs.by_seats.Given as goal

-- the trail that was just made, and the state that the kernel was booted in
abbrev pub ghosts-seats_named : goal.ghosts-seats_named
ghosts-seats_named g a = record { boot = a.kernel; trail = a.trail.id }
