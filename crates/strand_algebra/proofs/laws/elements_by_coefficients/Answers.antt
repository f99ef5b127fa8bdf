use Rattle.strand_algebra.proofs.ElementLaws as proof
use Rattle.strand_algebra.proofs.laws.elements_by_coefficients.Goals as goal

pub returns : goal.returns
returns c = proof.element_collected
