use Rattle.arc_gluing.proofs.GluingLaws as proof
use Rattle.arc_gluing.proofs.laws.whole_network.Goals as goal

pub returns : goal.returns
returns c = proof.whole_network
