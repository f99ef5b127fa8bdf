use Rattle.arc_pairing.proofs.FirstMates.{first_none}
use Rattle.arc_pairing.proofs.gluing.first_mates.Goals as goal

pub loop-point-init : goal.loop-point-init
loop-point-init c = first_none c.args.partners.now
