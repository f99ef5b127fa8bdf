use Rattle.strand_algebra.proofs.ProjectorLaws as proof
use Rattle.strand_algebra.proofs.laws.projector_found.Goals as goal

pub returns : goal.returns
returns c = proof.projector_found
