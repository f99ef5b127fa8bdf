-- The law, as it is proved.
use Rattle.inertia_laws.proofs.Terms.{lowest_terms_law}
use Rattle.inertia_laws.proofs.laws.lowest_terms.Goals as goal

pub returns : goal.returns
returns c = lowest_terms_law
