-- An Omega has an inverse exactly where it shares no factor with the modulus.
use Rattle.std.proofs.Common.{◌≡◌, ℕ, ◌<◌, pos, true, false, refl, ap₂, subst, subst₂, ◌∙◌, arith}
use Rattle.std.specs.Int.{IsGcd}
use Rattle.ring_identities.specs.Residues.{residue}
use Rattle.ring_identities.specs.Powers.{power, IsInverse}
use Rattle.kirby_terms.proofs.Omegas.{no_power, powers_are, not_missing}
use Rattle.kirby_terms.proofs.normalisation.inverse_power.Goals as goal

pub returns-then-count-eq0-clause-power : goal.returns-then-count-eq0-clause-power
returns-then-count-eq0-clause-power c = no_power c.args.params.now c.args.sign c.args.count c.if-count-eq0.true

pub returns-in-Ok-clause-power : goal.returns-in-Ok-clause-power
returns-in-Ok-clause-power c =
    let below : c.in-Ok.inverse < c.args.params.now.modulus = omega (arith, c.in-Ok.ensures.below, c.ring.ensures) in
    powers_are c.args.params.now c.args.sign c.args.count c.in-Ok.inverse c.pow.result below
    (subst₂ (λ m x. IsInverse m x c.in-Ok.inverse) c.ring.ensures c.omega.ensures.value c.in-Ok.ensures.inverse)
    (c.pow.ensures.power ∙ ap₂ (λ m n. residue m (power (pos c.in-Ok.inverse) n)) c.ring-in-Ok.ensures c.from.ensures)

pub returns-in-Ok-clause-none : goal.returns-in-Ok-clause-none
returns-in-Ok-clause-none c = λ common.
    not_missing c.args.params.now c.args.sign c.args.count common (subst₂ (λ x m. IsGcd x m 1) c.omega.ensures.value c.ring.ensures (c.in-Ok.ensures.coprime.0 refl))

pub returns-in-Err-clause-missing : goal.returns-in-Err-clause-missing
returns-in-Err-clause-missing c = (
  c.in-Err.field-0.gcd,
  refl,
  record {
    counted = omega (arith, c.if-count-eq0.false);
    divisor = subst₂ (λ x m. IsGcd x m c.in-Err.field-0.gcd) c.omega.ensures.value c.ring.ensures c.in-Err.ensures.common;
    shared = λ one. (let wrong : false ≡ true = c.in-Err.ensures.coprime.1 (subst (λ (g : ℕ). IsGcd c.omega.result c.ring.result.now g) one c.in-Err.ensures.common) in cc);
  },
)
