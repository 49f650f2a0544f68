use Rattle.std.proofs.Common.{◌≡◌, ◌+◌, ◌≤◌, drop}
use Rattle.ux_stream.specs.Marks.{run_count}
use Rattle.ux_stream.proofs.marks.count_run.Given as goal

-- the bytes so far and those of the run from here on are those of the run
abbrev pub invariant-loop-i : goal.invariant-loop-i
invariant-loop-i g l = record {
  within : l.total ≤ l.n;
  told : l.total + run_count l.wants_cred l.cred (drop l.i l.marks.items) ≡ run_count l.wants_cred l.cred l.marks.items;
}
