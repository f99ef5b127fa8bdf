use Rattle.cable_crossings.proofs.CrossingLaws.{strands_through}
use Rattle.cable_crossings.proofs.laws.strands_through.Goals as goal

pub returns : goal.returns
returns c = strands_through
