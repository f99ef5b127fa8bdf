use Rattle.slide_laws.proofs.Inertia.{slide_invertible}
use Rattle.slide_laws.proofs.laws.slide_invertible.Goals as goal

pub returns : goal.returns
returns c = slide_invertible
