use Rattle.piece_laws.proofs.PieceOrder.{added_around}
use Rattle.piece_laws.proofs.laws.added_around.Goals as goal

pub returns : goal.returns
returns c = added_around
