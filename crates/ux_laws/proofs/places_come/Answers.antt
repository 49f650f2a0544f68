use Rattle.ux_laws.proofs.PlacesCome.{places_come}
use Rattle.ux_laws.proofs.places_come.Goals as goal

pub returns : goal.returns
returns c = places_come
