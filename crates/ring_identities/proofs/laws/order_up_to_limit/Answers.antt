-- The law, as it is proved.
use Rattle.ring_identities.proofs.LawProofs.{order_up_to_law}
use Rattle.ring_identities.proofs.laws.order_up_to_limit.Goals as goal

pub returns : goal.returns
returns c = order_up_to_law
