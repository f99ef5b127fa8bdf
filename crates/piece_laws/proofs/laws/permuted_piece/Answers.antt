use Rattle.piece_laws.proofs.PieceOrder.{permuted_piece}
use Rattle.piece_laws.proofs.laws.permuted_piece.Goals as goal

pub returns : goal.returns
returns c = permuted_piece
