use Rattle.cable_crossings.proofs.BigonSlots.{bigon_at_slots}
use Rattle.cable_crossings.proofs.laws.bigon_at_slots.Goals as goal

pub returns : goal.returns
returns c = bigon_at_slots
