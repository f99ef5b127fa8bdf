use Rattle.cables.proofs.PlainCables.{plain_cable}
use Rattle.cables.proofs.laws.plain_cable.Goals as goal

pub returns : goal.returns
returns c = plain_cable
