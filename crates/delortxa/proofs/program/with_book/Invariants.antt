use Rattle.delortxa.proofs.program.with_book.Given as goal

-- the trail that was just made, and the state that the kernel was booted in
abbrev pub ghosts-keep_book : goal.ghosts-keep_book
ghosts-keep_book g a = record { boot = a.kernel; trail = a.trail.id }
