use Rattle.strand_algebra.proofs.Gluings as proof
use Rattle.strand_algebra.proofs.laws.closure_by_gluing.Goals as goal

pub returns : goal.returns
returns c = proof.glued_closure
