-- The terms of a projector pair all ends of its box, with weights below m.
use Rattle.std.proofs.Common.{◌≡◌, ℕ, zero, suc, ◌+◌, ◌<◌, length, arith, subst}
use Rattle.std.proofs.lemmas.List.Elements.{All-weaker}
use Rattle.state_sums.specs.Networks.{Term, IsPairing}
use Rattle.root_quantum.specs.Parameters.{Parameters}
use Rattle.root_quantum.specs.QuantumNumbers.{loop_value}
use Rattle.strand_algebra.specs.Elements.{IsElement, beside, hook, multiply, scaled}
use Rattle.strand_algebra.specs.Projectors.{projector, wenzl_factor, found_projector, quantum_residue, inverse_of}
use Rattle.strand_algebra.proofs.ByLabels.{IsPairingOn-from_points}
use Rattle.strand_algebra.proofs.LabelProducts.{IsPairingOf}
use Rattle.strand_algebra.proofs.Operations.{IsElement-identity, IsElement-add}
use Rattle.cables.specs.Nets.{projector_of}
use Rattle.cables.specs.Laws.{ProjectorsAreBoxesLaw}
use Rattle.box_laws.proofs.ClosedBoxes.{element_pairings}

is_element : (m delta : ℕ) (inverse : ℕ → ℕ) (n : ℕ) → 0 < m → IsElement m n (projector m delta inverse n)
unfolding projector
is_element m delta inverse zero h = IsElement-identity m 0 h
is_element m delta inverse (suc zero) h = IsElement-identity m 1 h
is_element m delta inverse (suc (suc n)) h =
    let s : n + 2 ≡ suc (suc n) = omega arith in
    let f = projector m delta inverse (suc n) in
    let wide = beside m (n + 1) f in
    let c = wenzl_factor m delta (inverse (suc n)) n in
    subst (λ k. IsElement m k (projector m delta inverse (suc (suc n)))) s
    (IsElement-add m (n + 2) wide (scaled m (n + 2) c (multiply m delta (n + 2) (multiply m delta (n + 2) wide (hook m (n + 2) (n + 1))) wide)) h)

found_element : (p : Parameters) (n : ℕ) → IsElement p.modulus n (projector_of p n)
unfolding found_projector
found_element p n = is_element p.modulus (loop_value p) (λ k. inverse_of p.modulus (quantum_residue p.modulus (loop_value p) k)) n (let h = p.meets.modulus.0 in omega (arith, h))

-- PROJECTORS ARE BOXES
pub projector_boxes : ProjectorsAreBoxesLaw
projector_boxes p = record {
  pairings = λ n.
      All-weaker (λ (term : Term). IsPairingOf (n + n) term.partner) (λ (term : Term). IsPairing term.partner × (length term.partner ≡ n + n))
      (λ term h. ((IsPairingOn-from_points n term.partner h).is_pairing, h.length_is)) (projector_of p n) (element_pairings p.modulus n (projector_of p n) (found_element p n));
  below = λ n. (found_element p n).below;
}
