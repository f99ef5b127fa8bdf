-- The law, as it is proved.
use Rattle.ring_identities.proofs.LawProofs.{same_residues}
use Rattle.ring_identities.proofs.laws.same_residues.Goals as goal

pub returns : goal.returns
returns c = same_residues
