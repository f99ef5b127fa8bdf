-- The theta has an inverse exactly where it shares no factor with the modulus.
use Rattle.std.proofs.Common.{◌≡◌, Ok, true, false, refl, inr, ap, subst, ◌∙◌, arith}
use Rattle.std.specs.Int.{IsGcd}
use Rattle.ring_identities.specs.Powers.{IsInverse}
use Rattle.strand_algebra.specs.Projectors.{inverse_of}
use Rattle.kirby_terms.proofs.Omegas.{same_inverse}
use Rattle.tetra_sum.specs.Nets.{net_value, theta_net}
use Rattle.tetra_sum.proofs.NetValues.{theta_is, no_theta_fault, theta_fault}
use Rattle.tetra_sum.proofs.places.inverse_theta.Goals as goal

pub returns-in-Ok-inverse-clause-value : goal.returns-in-Ok-inverse-clause-value
returns-in-Ok-inverse-clause-value c =
    let p = c.args.table.now.params in
    let y = c.in-Ok-inverse.inverse in
    let modulus_is : c.ring.result.now ≡ p.modulus = c.ring.ensures ∙ ap (λ q. q.modulus) c.params.ensures in
    let low = (c.in-Ok-inverse.ensures {u = tt}).below in
    same_inverse p.modulus c.in-Ok.theta y (omega (arith, low, modulus_is)) (subst (λ m. IsInverse m c.in-Ok.theta y) modulus_is ((c.in-Ok-inverse.ensures {u = tt}).inverse))
    ∙ ap (inverse_of p.modulus) (theta_is p c.args.store.now.net c.args.colours.now c.in-Ok.theta c.requires.net ((c.in-Ok.ensures {u = tt}).value))

pub returns-in-Ok-inverse-clause-none : goal.returns-in-Ok-inverse-clause-none
returns-in-Ok-inverse-clause-none c =
    let p = c.args.table.now.params in
    let modulus_is : c.ring.result.now ≡ p.modulus = c.ring.ensures ∙ ap (λ q. q.modulus) c.params.ensures in
    no_theta_fault p.modulus c.args.number c.args.face (net_value p theta_net c.args.colours.now) c.in-Ok.theta
    (subst (λ n. net_value p n c.args.colours.now ≡ Ok c.in-Ok.theta) c.requires.net ((c.in-Ok.ensures {u = tt}).value))
    (subst (λ m. IsGcd c.in-Ok.theta m 1) modulus_is ((c.in-Ok-inverse.ensures {u = tt}).coprime.0 refl))

pub returns-in-Err-inverse-clause-refused : goal.returns-in-Err-inverse-clause-refused
returns-in-Err-inverse-clause-refused c =
    let p = c.args.table.now.params in
    let g = c.in-Err-inverse.field-0.gcd in
    let modulus_is : c.ring.result.now ≡ p.modulus = c.ring.ensures ∙ ap (λ q. q.modulus) c.params.ensures in
    let shared : IsGcd c.in-Ok.theta c.ring.result.now 1 → ⊥ = λ one. (let wrong : false ≡ true = (c.in-Err-inverse.ensures {u = tt}).coprime.1 one in cc) in
    inr
    (theta_fault p.modulus c.args.number c.args.face (net_value p theta_net c.args.colours.now) c.in-Ok.theta g
    (subst (λ n. net_value p n c.args.colours.now ≡ Ok c.in-Ok.theta) c.requires.net ((c.in-Ok.ensures {u = tt}).value))
    (subst (λ m. IsGcd c.in-Ok.theta m g) modulus_is ((c.in-Err-inverse.ensures {u = tt}).common))
    (subst (λ m. IsGcd c.in-Ok.theta m 1 → ⊥) modulus_is shared))
