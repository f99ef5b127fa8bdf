use Rattle.coloured_values.proofs.BlowUps.{blown_up_matrix}
use Rattle.coloured_values.proofs.laws.blown_up_matrix.Goals as goal

pub returns : goal.returns
returns c = blown_up_matrix
