use Rattle.ux_script_names.proofs.run.NamedScript.plain_text.Given as goal

-- the trail that was just made, and the state that the kernel is given in
abbrev pub ghosts-run_lines : goal.ghosts-run_lines
ghosts-run_lines g a = record { boot = a.kernel; trail = a.trail.id }
