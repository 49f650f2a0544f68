use Rattle.ux_model.proofs.Pedigrees.OneDescription.{holds_only_its_own}
use Rattle.ux_model.proofs.who_was_sent_nothing_holds_only_its_own.Goals as goal

pub returns : goal.returns
returns c = holds_only_its_own
