-- The law, as it is proved.
use Rattle.ring_identities.proofs.LawProofs.{signed_power_sum}
use Rattle.ring_identities.proofs.laws.signed_power_sum.Goals as goal

pub returns : goal.returns
returns c = signed_power_sum
