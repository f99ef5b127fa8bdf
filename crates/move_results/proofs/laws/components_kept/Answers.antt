use Rattle.move_results.proofs.ComponentLaws.{components_kept}
use Rattle.move_results.proofs.laws.components_kept.Goals as goal

pub returns : goal.returns
returns c = components_kept
