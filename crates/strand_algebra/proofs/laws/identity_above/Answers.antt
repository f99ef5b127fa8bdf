use Rattle.strand_algebra.proofs.ElementLaws as proof
use Rattle.strand_algebra.proofs.laws.identity_above.Goals as goal

pub returns : goal.returns
returns c = proof.identity_above
