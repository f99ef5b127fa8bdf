use Rattle.braid_trace.proofs.OneReading.{readings_are_unique_lem}
use Rattle.braid_trace.proofs.laws.readings_are_unique.Goals as goal

pub returns : goal.returns
returns c = readings_are_unique_lem
