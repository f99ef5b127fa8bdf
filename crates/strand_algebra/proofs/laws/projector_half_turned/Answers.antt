use Rattle.strand_algebra.proofs.ProjectorLaws as proof
use Rattle.strand_algebra.proofs.laws.projector_half_turned.Goals as goal

pub returns : goal.returns
returns c = proof.half_turn
