use Rattle.slide_laws.proofs.Inertia.{slide_inertia}
use Rattle.slide_laws.proofs.laws.slide_inertia.Goals as goal

pub returns : goal.returns
returns c = slide_inertia
