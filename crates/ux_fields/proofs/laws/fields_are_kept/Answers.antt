use Rattle.ux_fields.proofs.Making.{kept}
use Rattle.ux_fields.proofs.laws.fields_are_kept.Goals as goal

pub returns : goal.returns
returns c = kept
