use Rattle.std.proofs.Common.{◌≡◌}
use Rattle.std.specs.List.{range_with_len, filter_map}
use Rattle.ux_holders.specs.Listing.{process_row}
use Rattle.ux_holders.proofs.processes.processes_of.Given as goal

abbrev pub invariant-loop-index : goal.invariant-loop-index
invariant-loop-index g l = l.rows.items ≡ filter_map (process_row l.state) (range_with_len 1 l.index)
