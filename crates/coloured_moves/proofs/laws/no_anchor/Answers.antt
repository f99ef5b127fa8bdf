use Rattle.coloured_moves.proofs.ColouredSlides.{no_anchor}
use Rattle.coloured_moves.proofs.laws.no_anchor.Goals as goal

pub returns : goal.returns
returns c = no_anchor
