use Rattle.strand_algebra.proofs.StrandSeams as proof
use Rattle.strand_algebra.proofs.laws.strand_seam.Goals as goal

pub returns : goal.returns
returns c = proof.strand_seam
