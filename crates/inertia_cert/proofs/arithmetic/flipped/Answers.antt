use Rattle.std.proofs.Common.{rules, subst, sym, ap, ap₂, ◌∙◌, unsigned_abs, IsTrue, FitsSigned}
use Rattle.std.specs.Int.{w128}
use Rattle.std.proofs.lemmas.Int.{to_z-of_z}
use Rattle.inertia_laws.specs.Matrices.{is_positive}
use Rattle.inertia_laws.specs.Fractions.{gcd}
use Rattle.inertia_laws.specs.Range.{fits}
use Rattle.inertia_cert.proofs.Opposites.{gcd_swap, positive_fits}
use Rattle.inertia_cert.proofs.arithmetic.flipped.Goals as goal

pub invariant_of-result : goal.invariant_of-result
invariant_of-result c =
    let num : FitsSigned w128 c.args.x.num = search rules in
    let den : FitsSigned w128 c.args.x.den = search rules in
    let num_is = to_z-of_z w128 c.args.x.num num in
    let den_is = to_z-of_z w128 c.args.x.den den in
    record {
      above_zero = ap is_positive num_is ∙ c.requires;
      lowest = ap₂ (λ a b. gcd (unsigned_abs a) (unsigned_abs b)) den_is num_is ∙ gcd_swap (unsigned_abs c.args.x.den) (unsigned_abs c.args.x.num) ∙ c.args.x.lowest;
      within = subst (λ z. IsTrue (fits z)) (sym den_is) (positive_fits c.args.x.den c.args.x.above_zero den);
    }
