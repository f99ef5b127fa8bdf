use Rattle.piece_laws.proofs.Closing.{arc_joins}
use Rattle.piece_laws.proofs.laws.arc_joins.Goals as goal

pub returns : goal.returns
returns c = arc_joins
