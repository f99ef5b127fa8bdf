use Rattle.strand_algebra.proofs.ProjectorLaws as proof
use Rattle.strand_algebra.proofs.laws.projector_is_element.Goals as goal

pub returns : goal.returns
returns c = proof.projector_element
