use Rattle.coloured_values.proofs.BlowUps.{blow_up}
use Rattle.coloured_values.proofs.laws.blow_up_keeps_surgery.Goals as goal

pub returns : goal.returns
returns c = blow_up
