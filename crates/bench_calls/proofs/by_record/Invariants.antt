use Rattle.bench_calls.proofs.by_record.Given as goal

-- the trail that was just made, and the state that the kernel was booted in
abbrev pub ghosts-record_named : goal.ghosts-record_named
ghosts-record_named g a = record { boot = a.kernel; trail = a.trail.id }
