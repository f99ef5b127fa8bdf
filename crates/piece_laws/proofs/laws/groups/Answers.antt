use Rattle.piece_laws.proofs.Ungrouped.{groups}
use Rattle.piece_laws.proofs.laws.groups.Goals as goal

pub returns : goal.returns
returns c = groups
