use Rattle.ux_book_tests.proofs.book.the_end_comes_once_and_accounts_settle.Given as goal

-- the trail that was just made, and the state that the kernel was booted in
abbrev pub ghosts-settle : goal.ghosts-settle
ghosts-settle g a = record { boot = a.kernel; trail = a.trail.id }
