use Rattle.piece_laws.proofs.CrossingTurns.{quarter_turn}
use Rattle.piece_laws.proofs.laws.quarter_turn.Goals as goal

pub returns : goal.returns
returns c = quarter_turn
