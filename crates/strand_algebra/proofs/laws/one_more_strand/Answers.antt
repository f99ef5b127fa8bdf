use Rattle.strand_algebra.proofs.PairingLaws as proof
use Rattle.strand_algebra.proofs.laws.one_more_strand.Goals as goal

pub returns : goal.returns
returns c = proof.widened_noncrossing
