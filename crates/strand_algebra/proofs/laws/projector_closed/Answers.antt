use Rattle.strand_algebra.proofs.ProjectorLaws as proof
use Rattle.strand_algebra.proofs.laws.projector_closed.Goals as goal

pub returns : goal.returns
returns c = proof.closure_value
