use Rattle.piece_laws.proofs.OtherTerms.{other_terms}
use Rattle.piece_laws.proofs.laws.other_terms.Goals as goal

pub returns : goal.returns
returns c = other_terms
