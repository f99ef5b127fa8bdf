use Rattle.piece_laws.proofs.Closing.{weight_is_factor}
use Rattle.piece_laws.proofs.laws.weight_is_factor.Goals as goal

pub returns : goal.returns
returns c = weight_is_factor
