use Rattle.strand_algebra.proofs.PairingLaws as proof
use Rattle.strand_algebra.proofs.laws.all_noncrossing_pairings.Goals as goal

pub returns : goal.returns
returns c = proof.noncrossing_list
