use Rattle.std.proofs.Common.{◌≡◌, take}
use Rattle.std.specs.List.{filter_map}
use Rattle.ux_session.proofs.Numbered.{lead_of}
use Rattle.ux_session.proofs.numbers.leads.Given as goal

abbrev pub invariant-loop-fd : goal.invariant-loop-fd
invariant-loop-fd g l = l.leads.items ≡ filter_map (lead_of l.state l.entry.pid.0) (take l.fd-index l.fd-items)
