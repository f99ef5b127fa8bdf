use Rattle.script_reader.proofs.OneScriptReading.{script_readings_exist}
use Rattle.script_reader.proofs.laws.script_readings_exist.Goals as goal

pub returns : goal.returns
returns c = script_readings_exist
