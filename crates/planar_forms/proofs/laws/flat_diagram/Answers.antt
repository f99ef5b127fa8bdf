use Rattle.planar_forms.proofs.PlaceCounts.{flat_diagram}
use Rattle.planar_forms.proofs.laws.flat_diagram.Goals as goal

pub returns : goal.returns
returns c = flat_diagram
