use Rattle.ux_book_tests.proofs.book.each_call_is_one_entry.Given as goal

-- the trail that was just made, and the state that the kernel was booted in
abbrev pub ghosts-make_calls : goal.ghosts-make_calls
ghosts-make_calls g a = record { boot = a.kernel; trail = a.trail.id }
