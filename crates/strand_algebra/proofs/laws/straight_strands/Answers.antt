use Rattle.strand_algebra.proofs.PairingLaws as proof
use Rattle.strand_algebra.proofs.laws.straight_strands.Goals as goal

pub returns : goal.returns
returns c = proof.straight_noncrossing
