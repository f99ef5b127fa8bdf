-- The law, as it is proved.
use Rattle.ring_identities.proofs.LawProofs.{unity_at_multiples}
use Rattle.ring_identities.proofs.laws.unity_at_multiples.Goals as goal

pub returns : goal.returns
returns c = unity_at_multiples
