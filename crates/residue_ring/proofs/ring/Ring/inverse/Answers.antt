-- The multiplier is the inverse where the divisor is 1, and there is no other greatest divisor.
use Rattle.std.proofs.Common.{◌∙◌, refl, sym}
use Rattle.std.proofs.lemmas.Nat.Gcd.{same_from_IsGcd}
use Rattle.residue_ring.proofs.EuclidSteps.{inverse_of_one, gcd_is_one}
use Rattle.residue_ring.proofs.ring.Ring.inverse.Goals as goal

pub returns-then-gcd-one-clause-inverse : goal.returns-then-gcd-one-clause-inverse
returns-then-gcd-one-clause-inverse c =
    inverse_of_one c.args.self.now c.args.x c.bezout-gcd.result.0 c.bezout-gcd.result.1 c.one.result c.one.ensures.one c.one.ensures.below c.if-gcd-one.true c.bezout-gcd.ensures.multiplier

pub returns-then-gcd-one-clause-coprime : goal.returns-then-gcd-one-clause-coprime
returns-then-gcd-one-clause-coprime c =
    ((λ e. gcd_is_one c.args.x c.args.self.now c.bezout-gcd.result.0 (c.if-gcd-one.true ∙ c.one.ensures.one) c.bezout-gcd.ensures.divisor), (λ coprime. refl))

pub returns-else-gcd-one-clause-coprime : goal.returns-else-gcd-one-clause-coprime
returns-else-gcd-one-clause-coprime c =
    ((λ e. absurd (cc)), (λ coprime. absurd (c.if-gcd-one.false (same_from_IsGcd c.args.x c.args.self.now c.bezout-gcd.result.0 1 c.bezout-gcd.ensures.divisor coprime ∙ sym c.one.ensures.one))))
