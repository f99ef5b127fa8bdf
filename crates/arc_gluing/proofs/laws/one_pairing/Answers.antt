use Rattle.arc_gluing.proofs.GluingLaws as proof
use Rattle.arc_gluing.proofs.laws.one_pairing.Goals as goal

pub returns : goal.returns
returns c = proof.one_pairing_by_parts
