use Rattle.ux_stream.proofs.Cuts.{is_reach}
use Rattle.ux_stream.proofs.marks.reach_of.Goals as goal

pub returns : goal.returns
returns g c = is_reach _ _ _ _ _ _ c.requires c.index.ensures c.cred-cred.ensures c.count_run-count.ensures
