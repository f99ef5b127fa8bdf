use Rattle.arc_gluing.proofs.GluingLaws as proof
use Rattle.arc_gluing.proofs.laws.paired_states.Goals as goal

pub returns : goal.returns
returns c = proof.paired_states
