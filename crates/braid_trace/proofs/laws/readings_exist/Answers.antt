use Rattle.braid_trace.proofs.OneReading.{readings_exist_lem}
use Rattle.braid_trace.proofs.laws.readings_exist.Goals as goal

pub returns : goal.returns
returns c = readings_exist_lem
