use Rattle.coloured_moves.proofs.ColouredCurls.{coloured_curl}
use Rattle.coloured_moves.proofs.laws.coloured_curl.Goals as goal

pub returns : goal.returns
returns c = coloured_curl
