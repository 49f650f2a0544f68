use Rattle.delortxa.proofs.family.with_family.Given as goal

-- the trail that was just made, and the state that the kernel was booted in
abbrev pub ghosts-keep_family : goal.ghosts-keep_family
ghosts-keep_family g a = record { boot = a.kernel; trail = a.trail.id }
