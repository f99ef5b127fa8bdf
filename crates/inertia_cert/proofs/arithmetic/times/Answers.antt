use Rattle.std.proofs.Common.{◌*ℤ◌, ap, ap₂, ◌∙◌, rules, FitsSigned}
use Rattle.std.proofs.lemmas.Int.{to_z-of_z}
use Rattle.std.specs.Int.{w128}
use Rattle.inertia_laws.specs.Matrices.{is_positive}
use Rattle.inertia_laws.proofs.Values.{both_positive}
use Rattle.inertia_cert.proofs.arithmetic.times.Goals as goal

pub lowest-requires-clause-above_zero : goal.lowest-requires-clause-above_zero
lowest-requires-clause-above_zero c =
    let x_fits : FitsSigned w128 c.args.x.den = search rules in
    let y_fits : FitsSigned w128 c.args.y.den = search rules in
    let fits : FitsSigned w128 c.in_ok-bottom.bottom = search rules in
    let positive = both_positive c.args.x.den c.args.y.den c.args.x.above_zero c.args.y.above_zero in
    let made = c.in_ok-bottom.ensures {u = tt} in
    ap is_positive (to_z-of_z w128 c.in_ok-bottom.bottom fits ∙ made.1 ∙ ap₂ (λ a b. a *ℤ b) (to_z-of_z w128 c.args.x.den x_fits) (to_z-of_z w128 c.args.y.den y_fits)) ∙ positive
