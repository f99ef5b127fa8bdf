use Rattle.strand_algebra.proofs.PairingLaws as proof
use Rattle.strand_algebra.proofs.laws.product_of_pairings.Goals as goal

pub returns : goal.returns
returns c = proof.product_of_pairings
