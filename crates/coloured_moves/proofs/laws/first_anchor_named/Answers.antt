use Rattle.coloured_moves.proofs.ColouredSlides.{first_anchor_named}
use Rattle.coloured_moves.proofs.laws.first_anchor_named.Goals as goal

pub returns : goal.returns
returns c = first_anchor_named
