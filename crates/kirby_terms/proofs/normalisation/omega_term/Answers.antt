-- What the ring computes.
use Rattle.kirby_terms.proofs.Omegas.{term_is}
use Rattle.kirby_terms.proofs.normalisation.omega_term.Goals as goal

pub returns-clause-value : goal.returns-clause-value
returns-clause-value c =
    term_is c.args.params.now c.args.sign c.ring-ring.result.now c.args.n c.delta-delta.result c.twist.result c.mul.result c.mul-2.result c.ring-ring.ensures c.delta-delta.ensures.value c.twist.ensures.value c.mul.ensures.product c.mul-2.ensures.product
