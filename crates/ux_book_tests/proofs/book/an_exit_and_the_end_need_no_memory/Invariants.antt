use Rattle.ux_book_tests.proofs.book.an_exit_and_the_end_need_no_memory.Given as goal

-- the trail that was just made, and the state that the kernel was booted in
abbrev pub ghosts-end_without_memory : goal.ghosts-end_without_memory
ghosts-end_without_memory g a = record { boot = a.kernel; trail = a.trail.id }
