use Rattle.kirby_terms.proofs.CoprimeInverses.{omega_inverse_law}
use Rattle.kirby_terms.proofs.laws.omega_inverses.Goals as goal

pub returns : goal.returns
returns c = omega_inverse_law
