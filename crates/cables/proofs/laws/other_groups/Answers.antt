use Rattle.cables.proofs.Groups.{other_groups}
use Rattle.cables.proofs.laws.other_groups.Goals as goal

pub returns : goal.returns
returns c = other_groups
