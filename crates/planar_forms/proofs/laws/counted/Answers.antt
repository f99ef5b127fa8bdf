use Rattle.planar_forms.proofs.PlaceCounts.{counted}
use Rattle.planar_forms.proofs.laws.counted.Goals as goal

pub returns : goal.returns
returns c = counted
