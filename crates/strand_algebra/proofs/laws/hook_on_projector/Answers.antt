use Rattle.strand_algebra.proofs.ProjectorLaws as proof
use Rattle.strand_algebra.proofs.laws.hook_on_projector.Goals as goal

pub returns : goal.returns
returns c = proof.hook_on_projector
