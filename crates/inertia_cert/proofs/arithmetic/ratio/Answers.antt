use Rattle.std.proofs.Common.{subst}
use Rattle.inertia_laws.specs.Fractions.{times}
use Rattle.inertia_laws.specs.Range.{multiply_fits}
use Rattle.inertia_cert.specs.Values.{value, FormsAs}
use Rattle.inertia_cert.proofs.Opposites.{multiply_reciprocal, multiply_reciprocal_fits}
use Rattle.inertia_cert.proofs.arithmetic.ratio.Goals as goal

pub returns : goal.returns
returns c =
    rw (← multiply_reciprocal (value c.args.x) (value c.args.y), ← multiply_reciprocal_fits (value c.args.x) (value c.args.y))
    (subst (λ u. FormsAs c.times.result (multiply_fits (value c.args.x) u) (times (value c.args.x) u)) c.reciprocal.ensures c.times.ensures)
