use Rattle.strand_algebra.proofs.ProjectorLaws as proof
use Rattle.strand_algebra.proofs.laws.one_projector.Goals as goal

pub returns : goal.returns
returns c = proof.one_projector
