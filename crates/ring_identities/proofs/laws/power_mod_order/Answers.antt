-- The law, as it is proved.
use Rattle.ring_identities.proofs.LawProofs.{power_mod_order}
use Rattle.ring_identities.proofs.laws.power_mod_order.Goals as goal

pub returns : goal.returns
returns c = power_mod_order
