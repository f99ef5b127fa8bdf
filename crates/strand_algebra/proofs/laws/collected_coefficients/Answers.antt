use Rattle.strand_algebra.proofs.ElementLaws as proof
use Rattle.strand_algebra.proofs.laws.collected_coefficients.Goals as goal

pub returns : goal.returns
returns c = proof.collected_coefficient
