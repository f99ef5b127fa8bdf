use Rattle.rotation_parts.proofs.PairForms.{pair_form}
use Rattle.rotation_parts.proofs.laws.pair_form.Goals as goal

pub returns : goal.returns
returns c = pair_form
