use Rattle.strand_algebra.proofs.ElementLaws as proof
use Rattle.strand_algebra.proofs.laws.associative_elements.Goals as goal

pub returns : goal.returns
returns c = proof.multiply_assoc
