-- The law, as it is proved.
use Rattle.ring_identities.proofs.LawProofs.{residue_congruent_law}
use Rattle.ring_identities.proofs.laws.residue_congruent.Goals as goal

pub returns : goal.returns
returns c = residue_congruent_law
