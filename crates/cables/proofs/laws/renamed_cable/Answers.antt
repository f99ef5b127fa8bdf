use Rattle.cables.proofs.RenamedCables.{renamed_cable}
use Rattle.cables.proofs.laws.renamed_cable.Goals as goal

pub returns : goal.returns
returns c = renamed_cable
