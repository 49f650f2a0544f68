use Rattle.std.proofs.Common.{arith}
use Rattle.ux_names.proofs.Ordering.{none_given, length_in_order}
use Rattle.ux_names.proofs.listing.Listing.clear.Goals as goal

pub returns-clause-names : goal.returns-clause-names
returns-clause-names g c = none_given c.clear.new.self.entries

pub returns-clause-room : goal.returns-clause-room
returns-clause-room g c = rw (← c.self.view_is)
    (omega (
      arith,
      length_in_order c.self.inside.bound.entries c.self.inside.next c.self.invariant.1,
      c.self.invariant.1.few,
      c.clear.ensures.capacity,
      c.self.ranges.1,
    ))
