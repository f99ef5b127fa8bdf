use Rattle.coloured_values.proofs.ColouredLaws.{added_component}
use Rattle.coloured_values.proofs.laws.added_component.Goals as goal

pub returns : goal.returns
returns c = added_component
