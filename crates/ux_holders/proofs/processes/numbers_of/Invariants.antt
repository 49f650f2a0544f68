use Rattle.std.proofs.Common.{◌≡◌}
use Rattle.std.specs.List.{range_with_len, filter_map}
use Rattle.ux_holders.specs.Listing.{number_row}
use Rattle.ux_holders.proofs.processes.numbers_of.Given as goal

abbrev pub invariant-loop-number : goal.invariant-loop-number
invariant-loop-number l = l.rows.items ≡ filter_map (number_row l.table) (range_with_len 0 l.number)
