use Rattle.state_sums.proofs.NetworkLaws.{glued_piece}
use Rattle.state_sums.proofs.laws.glued_piece.Goals as goal

pub returns : goal.returns
returns c = glued_piece
