-- The law, as it is proved.
use Rattle.ring_identities.proofs.LawProofs.{residue_of_natural}
use Rattle.ring_identities.proofs.laws.residue_of_natural.Goals as goal

pub returns : goal.returns
returns c = residue_of_natural
