-- The law, as it is proved.
use Rattle.inertia_laws.proofs.SizeAlone.{size_alone_law}
use Rattle.inertia_laws.proofs.laws.size_alone.Goals as goal

pub returns : goal.returns
returns c = size_alone_law
