use Rattle.std.proofs.Common.{◌≡◌, length}
use Rattle.ux_replay.specs.Runs.{requests_of}
use Rattle.ux_replay.proofs.script_calls.next_of.Given as goal

abbrev pub invariant-loop-entry : goal.invariant-loop-entry
invariant-loop-entry l = requests_of l.pid l.entries ≡ requests_of l.pid l.rest

abbrev pub decreases-loop-entry : goal.decreases-loop-entry
decreases-loop-entry l = length l.rest
