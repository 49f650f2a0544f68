use Rattle.ux_book_tests.proofs.book.a_fork_without_memory_makes_no_process.Given as goal

-- the trail that was just made, and the state that the kernel was booted in
abbrev pub ghosts-fork_often : goal.ghosts-fork_often
ghosts-fork_often g a = record { boot = a.kernel; trail = a.trail.id }
