use Rattle.arc_gluing.proofs.GluingLaws as proof
use Rattle.arc_gluing.proofs.laws.glued_node.Goals as goal

pub returns : goal.returns
returns c = proof.glued_node
