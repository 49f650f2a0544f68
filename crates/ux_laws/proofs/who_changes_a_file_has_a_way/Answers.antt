use Rattle.ux_laws.proofs.NoWay.{changes_have_a_way}
use Rattle.ux_laws.proofs.who_changes_a_file_has_a_way.Goals as goal

pub returns : goal.returns
returns c = changes_have_a_way
