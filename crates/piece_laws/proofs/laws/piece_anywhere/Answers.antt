use Rattle.piece_laws.proofs.PiecesAnywhere.{piece_anywhere}
use Rattle.piece_laws.proofs.laws.piece_anywhere.Goals as goal

pub returns : goal.returns
returns c = piece_anywhere
