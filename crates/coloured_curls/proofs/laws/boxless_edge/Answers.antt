use Rattle.coloured_curls.proofs.AllCurls.{curled_boxless}
use Rattle.coloured_curls.proofs.laws.boxless_edge.Goals as goal

pub returns : goal.returns
returns c = curled_boxless
