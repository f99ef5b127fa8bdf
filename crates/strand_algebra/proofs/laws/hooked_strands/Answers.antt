use Rattle.strand_algebra.proofs.PairingLaws as proof
use Rattle.strand_algebra.proofs.laws.hooked_strands.Goals as goal

pub returns : goal.returns
returns c = proof.hooked_noncrossing
