-- Wenzl's recursion, step by step.
use Rattle.std.proofs.Common.{◌≡◌, ℕ, zero, suc, ◌+◌, ◌-◌, ◌<◌, ◌≤◌, List, slice_index, pos, ◌*ℤ◌, neg_ℤ, refl, sym, ap, ap₂, ◌∙◌, arith}
use Rattle.ring_identities.specs.Residues.{residue}
use Rattle.ring_identities.proofs.Congruences.{congruent_negative, congruent_sym, residue_congruent, same_residue}
use Rattle.root_quantum.specs.Parameters.{Parameters}
use Rattle.root_quantum.specs.QuantumNumbers.{loop_value, delta}
use Rattle.state_sums.specs.Networks.{Term}
use Rattle.strand_algebra.specs.Elements.{identity, hook, add, scaled, multiply, beside}
use Rattle.strand_algebra.specs.Projectors.{quantum_residue, wenzl_factor, next_projector, projector, AreInverses}
use Rattle.strand_algebra.proofs.ProjectorLaws.{projector_element}
use Rattle.temperley_lieb.specs.Elements.{Element, AreBelow, element_of}
use Rattle.wenzl_table.specs.Projectors.{IsColourOf, IsProjectorOf}
use Rattle.root_quantum.proofs.QuantumSteps.{modulus_positive}

pub few_strands : (p : Parameters) (n : ℕ) → IsColourOf p n → n ≤ 8
few_strands p n h = let t = h.top in omega (arith, t)

-- Delta_n is the residue of strand_algebra's definition
pub delta_is : (p : Parameters) (n : ℕ) → delta p n ≡ quantum_residue p.modulus (loop_value p) n
unfolding delta
delta_is p n = refl

pub wenzl_factor_is : (p : Parameters) (k y d product result : ℕ) → d ≡ delta p k → product ≡ residue p.modulus (pos d *ℤ pos y) → result ≡ residue p.modulus (neg_ℤ (pos product)) →
    result ≡ wenzl_factor p.modulus (loop_value p) y k
wenzl_factor_is p k y d product result value product_is is =
    let m = p.modulus in
    is ∙ ap (λ z. residue m (neg_ℤ (pos z))) product_is
    ∙ same_residue (modulus_positive p) (congruent_negative (congruent_sym (residue_congruent m (pos d *ℤ pos y) (modulus_positive p))))
    ∙ ap (λ z. residue m (neg_ℤ (pos z *ℤ pos y))) (value ∙ delta_is p k)

-- one step of the recursion
pub projector_more : (m d : ℕ) (inverse : ℕ → ℕ) (k : ℕ) → 0 < k → projector m d inverse (k + 1) ≡ next_projector m d (wenzl_factor m d (inverse k) (k - 1)) (k - 1) (projector m d inverse k)
unfolding projector
projector_more m d inverse zero h = absurd (omega (arith, h))
projector_more m d inverse (suc k) h =
    let z : suc k - 1 ≡ k = omega arith in
    let y : suc k + 1 ≡ suc (suc k) = omega arith in
    ap (projector m d inverse) y ∙ ap (λ i. next_projector m d (wenzl_factor m d (inverse (suc k)) i) i (projector m d inverse (suc k))) (sym z)

-- from the elements that the calls gave: `wide` is one more strand, and `rest` the multiple of wide, the last hook, and wide
pub next_is : (m d factor n : ℕ) (f : List Term) → 0 < n →
    add m (n + 1) (beside m n f) (scaled m (n + 1) factor (multiply m d (n + 1) (multiply m d (n + 1) (beside m n f) (hook m (n + 1) (n + 1 - 1))) (beside m n f)))
    ≡ next_projector m d factor (n - 1) f
next_is m d factor zero f h = absurd (omega (arith, h))
next_is m d factor (suc n) f h =
    let a : suc n ≡ n + 1 = omega arith in
    let b : suc n + 1 ≡ n + 2 = omega arith in
    let c : suc n + 1 - 1 ≡ n + 1 = omega arith in
    let z : n ≡ suc n - 1 = omega arith in
    ap₂ (λ i j. add m j (beside m i f) (scaled m j factor (multiply m d j (multiply m d j (beside m i f) (hook m j (suc n + 1 - 1))) (beside m i f)))) a b
    ∙ ap (λ i. add m (n + 2) (beside m (n + 1) f) (scaled m (n + 2) factor (multiply m d (n + 2) (multiply m d (n + 2) (beside m (n + 1) f) (hook m (n + 2) i)) (beside m (n + 1) f)))) c
    ∙ ap (λ i. next_projector m d factor i f) z

-- what the type keeps
pub made_projector : (p : Parameters) (n : ℕ) (ys : List ℕ) (e : Element) → AreInverses p.modulus (loop_value p) (slice_index ys) n → e ≡ element_of n (projector p.modulus (loop_value p) (slice_index ys) n) → IsProjectorOf p n e
made_projector p n ys e are is = record {
  strands = ap (λ x. x.strands) is;
  terms = record { inverse = slice_index ys; are_inverses = are; is = ap (λ x. x.terms) is };
}

-- the last hook between twice the same element
pub round_is : (m d n s t : ℕ) (f : List Term) (last hooked : Element) → s ≡ n → t ≡ n → last ≡ element_of s (hook m s (t - 1)) → hooked ≡ element_of n (multiply m d n f last.terms) →
    element_of hooked.strands (multiply m d hooked.strands hooked.terms f) ≡ element_of n (multiply m d n (multiply m d n f (hook m n (n - 1))) f)
round_is m d n s t f last hooked one two last_is hooked_is =
    ap (λ (e : Element). element_of e.strands (multiply m d e.strands e.terms f)) hooked_is
    ∙ ap (λ (e : Element). element_of n (multiply m d n (multiply m d n f e.terms) f)) last_is
    ∙ ap₂ (λ i j. element_of n (multiply m d n (multiply m d n f (hook m i (j - 1))) f)) one two

-- the next projector's terms, from the elements of the calls
pub next_made : (m d s given factor : ℕ) (f : List Term) (wide round rest : Element) → 0 < s → wide ≡ element_of (s + 1) (beside m s f) →
    round ≡ element_of wide.strands (multiply m d wide.strands (multiply m d wide.strands wide.terms (hook m wide.strands (wide.strands - 1))) wide.terms) →
    rest ≡ element_of round.strands (scaled m round.strands given round.terms) → given ≡ factor →
    element_of wide.strands (add m wide.strands wide.terms rest.terms) ≡ element_of (s + 1) (next_projector m d factor (s - 1) f)
next_made m d s given factor f wide round rest h wide_is round_made rest_is given_is =
    ap (λ (e : Element). element_of wide.strands (add m wide.strands wide.terms e.terms)) rest_is
    ∙ ap (λ (e : Element). element_of wide.strands (add m wide.strands wide.terms (scaled m e.strands given e.terms))) round_made
    ∙ ap (λ (e : Element). element_of e.strands (add m e.strands e.terms (scaled m e.strands given (multiply m d e.strands (multiply m d e.strands e.terms (hook m e.strands (e.strands - 1))) e.terms)))) wide_is
    ∙ ap (λ k. element_of (s + 1) (add m (s + 1) (beside m s f) (scaled m (s + 1) k (multiply m d (s + 1) (multiply m d (s + 1) (beside m s f) (hook m (s + 1) (s + 1 - 1))) (beside m s f))))) given_is
    ∙ ap (element_of (s + 1)) (next_is m d factor s f h)

-- a turn of the loop over the colours
pub colour_more : (m d k y : ℕ) (inverse : ℕ → ℕ) (old new : Element) → 0 < k → y ≡ inverse k → old ≡ element_of k (projector m d inverse k) →
    new ≡ element_of (old.strands + 1) (next_projector m d (wenzl_factor m d y (old.strands - 1)) (old.strands - 1) old.terms) → new ≡ element_of (k + 1) (projector m d inverse (k + 1))
colour_more m d k y inverse old new h read so is =
    is
    ∙ ap (λ (e : Element). element_of (e.strands + 1) (next_projector m d (wenzl_factor m d y (e.strands - 1)) (e.strands - 1) e.terms)) so
    ∙ ap (λ z. element_of (k + 1) (next_projector m d (wenzl_factor m d z (k - 1)) (k - 1) (projector m d inverse k))) read
    ∙ ap (element_of (k + 1)) (sym (projector_more m d inverse k h))

pub first_colour : (m d : ℕ) (inverse : ℕ → ℕ) → projector m d inverse 1 ≡ identity m 1
unfolding projector
first_colour m d inverse = refl

-- its coefficients are below m
pub projector_below : (p : Parameters) (n : ℕ) (e : Element) → IsProjectorOf p n e → AreBelow p.modulus e
projector_below p n e h = (projector_element p.modulus (loop_value p) n e.terms (modulus_positive p) h.terms).below
