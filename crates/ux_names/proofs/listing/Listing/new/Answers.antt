use Rattle.ux_names.proofs.Ordering.{none_given}
use Rattle.ux_names.proofs.listing.Listing.new.Goals as goal

pub returns : goal.returns
returns g c = none_given c.with_hasher.result.entries
