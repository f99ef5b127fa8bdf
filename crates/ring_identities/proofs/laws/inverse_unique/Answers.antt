-- The law, as it is proved.
use Rattle.ring_identities.proofs.LawProofs.{inverse_unique_law}
use Rattle.ring_identities.proofs.laws.inverse_unique.Goals as goal

pub returns : goal.returns
returns c = inverse_unique_law
