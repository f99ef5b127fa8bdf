use Rattle.std.proofs.Common.{refl, subst, sym, IsTrue, FitsSigned, rules}
use Rattle.std.specs.Int.{w128}
use Rattle.std.proofs.lemmas.Int.{to_z-of_z}
use Rattle.inertia_laws.specs.Range.{fits}
use Rattle.inertia_cert.proofs.Opposites.{gcd_one}
use Rattle.inertia_cert.proofs.arithmetic.whole.Goals as goal

pub invariant_of-result : goal.invariant_of-result
invariant_of-result c =
    let number : FitsSigned w128 c.args.number = search rules in
    record {
      above_zero = refl;
      lowest = gcd_one _;
      within = subst (λ z. IsTrue (fits z)) (sym (to_z-of_z w128 c.args.number number)) c.requires;
    }
