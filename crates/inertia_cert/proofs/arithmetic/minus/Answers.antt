use Rattle.std.proofs.Common.{subst}
use Rattle.inertia_laws.specs.Fractions.{plus}
use Rattle.inertia_laws.specs.Range.{add_fits}
use Rattle.inertia_cert.specs.Values.{value, FormsAs}
use Rattle.inertia_cert.proofs.Opposites.{add_opposite, add_opposite_fits}
use Rattle.inertia_cert.proofs.arithmetic.minus.Goals as goal

pub returns : goal.returns
returns c =
    rw (← add_opposite (value c.args.x) (value c.args.y), ← add_opposite_fits (value c.args.x) (value c.args.y))
    (subst (λ u. FormsAs c.plus.result (add_fits (value c.args.x) u) (plus (value c.args.x) u)) c.negated.ensures c.plus.ensures)
