use Rattle.example_scripts.proofs.seat_running.Given as goal

-- the trail that was just made, and the state that the kernel was booted in
abbrev pub ghosts-is_alike_by_counting_seats : goal.ghosts-is_alike_by_counting_seats
ghosts-is_alike_by_counting_seats g a = record { boot = a.kernel; trail = a.trail.id }
