use Rattle.piece_laws.proofs.Closing.{arcs_close}
use Rattle.piece_laws.proofs.laws.arcs_close.Goals as goal

pub returns : goal.returns
returns c = arcs_close
