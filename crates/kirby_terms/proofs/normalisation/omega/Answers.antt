-- A turn adds the next colour's term.
use Rattle.std.proofs.Common.{◌<◌, pos, ◌+ℤ◌, ap, ◌∙◌, arith}
use Rattle.ring_identities.specs.Residues.{residue}
use Rattle.root_quantum.specs.Colours.{form_colours}
use Rattle.kirby_terms.specs.Normalisations.{omega_term}
use Rattle.kirby_terms.proofs.Sums.{no_sum, sum_more}
use Rattle.kirby_terms.proofs.Omegas.{omega_is}
use Rattle.kirby_terms.proofs.normalisation.omega.Goals as goal

pub loop-place-init : goal.loop-place-init
loop-place-init c =
    let p = c.args.params.now in
    let low = p.meets.modulus.0 in
    let some : 0 < p.modulus = omega (arith, low) in
    record { below = some; sum_is = no_sum p.modulus (omega_term p c.args.sign) some }

pub loop-place-preserved : goal.loop-place-preserved
loop-place-preserved c =
    let p = c.args.params.now in
    let low = p.meets.modulus.0 in
    let some : 0 < p.modulus = omega (arith, low) in
    let here : c.loop-place.place < c.colour_count-place-end.result = c.loop-place-test.true in
    record {
      below = omega (arith, c.ring.ensures, c.add-sum.ensures.below);
      sum_is =
          sum_more p.modulus (omega_term p c.args.sign) (form_colours p) c.loop-place.place 0
          c.loop-place.sum c.omega_term-term.result c.add-sum.result some (omega (arith, here, c.colour_count-place-end.ensures.count)) c.loop-place.invariant.sum_is
          (c.omega_term-term.ensures.value ∙ ap (λ n. residue p.modulus (omega_term p c.args.sign n)) c.colour_at.ensures.colour)
          (c.add-sum.ensures.sum ∙ ap (λ m. residue m (pos c.loop-place.sum +ℤ pos c.omega_term-term.result)) c.ring.ensures);
    }

pub returns-clause-value : goal.returns-clause-value
returns-clause-value c =
    omega_is c.args.params.now c.args.sign c.loop-place.place c.loop-place.sum (omega (arith, c.loop-place-test.false, c.colour_count-place-end.ensures.count)) c.loop-place.invariant.sum_is
