use Rattle.coloured_curls.proofs.CurledBoxes.{curled_box}
use Rattle.coloured_curls.proofs.laws.boxed_edge.Goals as goal

pub returns : goal.returns
returns c = curled_box
