use Rattle.ux_laws.proofs.Senders.{credentials_are_the_senders}
use Rattle.ux_laws.proofs.nobody_forges_credentials.Goals as goal

pub returns : goal.returns
returns c = credentials_are_the_senders
