use Rattle.cable_crossings.proofs.CrossingLaws.{bigon_of_cables}
use Rattle.cable_crossings.proofs.laws.bigon_of_cables.Goals as goal

pub returns : goal.returns
returns c = bigon_of_cables
