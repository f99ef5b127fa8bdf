-- The law, as it is proved.
use Rattle.inertia_laws.proofs.Equations.{solve}
use Rattle.inertia_laws.proofs.laws.equations_solvable.Goals as goal

pub returns : goal.returns
returns c = solve
