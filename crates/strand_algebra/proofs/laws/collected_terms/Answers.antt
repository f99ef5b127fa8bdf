use Rattle.strand_algebra.proofs.ElementLaws as proof
use Rattle.strand_algebra.proofs.laws.collected_terms.Goals as goal

pub returns : goal.returns
returns c = proof.collected_element
