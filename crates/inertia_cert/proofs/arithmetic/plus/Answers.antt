use Rattle.std.proofs.Common.{◌*ℤ◌, ◌+ℤ◌, ap, ap₂, ◌∙◌, rules, FitsSigned}
use Rattle.std.proofs.lemmas.Int.{to_z-of_z}
use Rattle.std.specs.Int.{w128}
use Rattle.inertia_laws.specs.Matrices.{is_positive}
use Rattle.inertia_laws.proofs.Values.{both_positive}
use Rattle.inertia_laws.specs.Fractions.{Fraction, reduce}
use Rattle.inertia_laws.specs.Range.{fits}
use Rattle.inertia_cert.proofs.Bounds.{all_fit, is_true_is}
use Rattle.inertia_cert.proofs.arithmetic.plus.Goals as goal

pub lowest-requires-clause-above_zero : goal.lowest-requires-clause-above_zero
lowest-requires-clause-above_zero c =
    let x_fits : FitsSigned w128 c.args.x.den = search rules in
    let y_fits : FitsSigned w128 c.args.y.den = search rules in
    let fits : FitsSigned w128 c.in_ok-bottom.bottom = search rules in
    let positive = both_positive c.args.x.den c.args.y.den c.args.x.above_zero c.args.y.above_zero in
    let made = c.in_ok-bottom.ensures {u = tt} in
    ap is_positive (to_z-of_z w128 c.in_ok-bottom.bottom fits ∙ made.1 ∙ ap₂ (λ a b. a *ℤ b) (to_z-of_z w128 c.args.x.den x_fits) (to_z-of_z w128 c.args.y.den y_fits)) ∙ positive

pub returns : goal.returns
returns c =
    let xd : FitsSigned w128 c.args.x.den = search rules in
    let yd : FitsSigned w128 c.args.y.den = search rules in
    let tf : FitsSigned w128 c.in_ok-top.top = search rules in
    let bf : FitsSigned w128 c.in_ok-bottom.bottom = search rules in
    let top = c.in_ok-top.ensures {u = tt} in
    let bottom = simp to_z-of_z at (c.in_ok-bottom.ensures {u = tt}) in
    let low = simp to_z-of_z at c.lowest.ensures in (
      all_fit (fits (c.args.x.num *ℤ c.args.y.den)) (fits (c.args.y.num *ℤ c.args.x.den)) (fits (c.args.x.num *ℤ c.args.y.den +ℤ c.args.y.num *ℤ c.args.x.den)) (fits (c.args.x.den *ℤ c.args.y.den)) top.0 (is_true_is (fits (c.args.x.den *ℤ c.args.y.den)) bottom.0),
      low ∙ ap reduce (ap₂ {C = Fraction} (λ a b. record { num = a; den = b }) top.1 bottom.1),
    )
