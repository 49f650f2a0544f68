use Rattle.ux_book_tests.proofs.book.a_book_without_memory_gives_the_kernel_back.Given as goal

-- the trail that was just made, and the state that the kernel was booted in
abbrev pub ghosts-open_book : goal.ghosts-open_book
ghosts-open_book g a = record { boot = a.kernel; trail = a.trail.id }
