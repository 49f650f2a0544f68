use Rattle.std.proofs.Common.{◌≡◌}
use Rattle.std.specs.List.{range_with_len, filter_map}
use Rattle.ux_holders.specs.Listing.{description_row}
use Rattle.ux_holders.proofs.descriptions.descriptions_of.Given as goal

abbrev pub invariant-loop-number : goal.invariant-loop-number
invariant-loop-number g l = l.rows.items ≡ filter_map (description_row l.state) (range_with_len 0 l.number)
