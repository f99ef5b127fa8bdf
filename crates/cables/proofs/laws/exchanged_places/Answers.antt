use Rattle.cables.proofs.ExchangedPlaces.{exchanged_places}
use Rattle.cables.proofs.laws.exchanged_places.Goals as goal

pub returns : goal.returns
returns c = exchanged_places
