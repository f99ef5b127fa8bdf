-- The law, as it is proved.
use Rattle.root_quantum.proofs.GreatestColours.{greatest_of_colours_law}
use Rattle.root_quantum.proofs.laws.greatest_of_colours.Goals as goal

pub returns : goal.returns
returns c = greatest_of_colours_law
