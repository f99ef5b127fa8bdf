use Rattle.coloured_moves.proofs.ColouredSlides.{coloured_slide}
use Rattle.coloured_moves.proofs.laws.coloured_slide.Goals as goal

pub returns : goal.returns
returns c = coloured_slide
