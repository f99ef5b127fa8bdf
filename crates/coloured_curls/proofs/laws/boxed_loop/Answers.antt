use Rattle.coloured_curls.proofs.CurledBoxes.{curled_loop_box}
use Rattle.coloured_curls.proofs.laws.boxed_loop.Goals as goal

pub returns : goal.returns
returns c = curled_loop_box
