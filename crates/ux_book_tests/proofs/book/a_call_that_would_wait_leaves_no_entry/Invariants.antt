use Rattle.ux_book_tests.proofs.book.a_call_that_would_wait_leaves_no_entry.Given as goal

-- the trail that was just made, and the state that the kernel was booted in
abbrev pub ghosts-try_calls : goal.ghosts-try_calls
ghosts-try_calls g a = record { boot = a.kernel; trail = a.trail.id }
