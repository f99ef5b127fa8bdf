-- The law, as it is proved.
use Rattle.ring_identities.proofs.LawProofs.{residue_in_range}
use Rattle.ring_identities.proofs.laws.residue_in_range.Goals as goal

pub returns : goal.returns
returns c = residue_in_range
