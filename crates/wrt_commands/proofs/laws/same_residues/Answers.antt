use Rattle.wrt_commands.proofs.SameResidues.{same_residues}
use Rattle.wrt_commands.proofs.laws.same_residues.Goals as goal

pub returns : goal.returns
returns c = same_residues
