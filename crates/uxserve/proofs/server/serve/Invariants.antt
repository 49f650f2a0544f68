use Rattle.uxserve.proofs.server.serve.Given as goal

-- the trail that was just made, and the state that the kernel was booted in
abbrev pub ghosts-serve_on : goal.ghosts-serve_on
ghosts-serve_on g a = record { boot = a.kernel; trail = a.trail.id }
