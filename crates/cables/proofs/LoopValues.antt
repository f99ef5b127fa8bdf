-- A loop of n strands is worth Delta_n: nothing, a free loop, or the closure of the projector.
use Rattle.std.proofs.Common.{◌≡◌, ℕ, zero, suc, ◌+◌, ◌*◌, ◌%◌, ◌<◌, ◌≤◌, List, [], ◌∷◌, length, reverse, false, refl, sym, ap, ◌∙◌, arith, mod-eq_of_lt}
use Rattle.ring_identities.proofs.Congruences.{residue_below}
use Rattle.state_sums.specs.Networks.{Term}
use Rattle.state_sums.specs.StateSums.{value}
use Rattle.state_sums.proofs.Congruent.{pow_0, pow_1}
use Rattle.state_sums.proofs.NetworkLaws.{no_nodes}
use Rattle.root_quantum.specs.Parameters.{Parameters}
use Rattle.root_quantum.specs.QuantumNumbers.{loop_value, delta}
use Rattle.root_quantum.proofs.LawProofs.{delta_first_law}
use Rattle.strand_algebra.specs.Elements.{IsElement, close}
use Rattle.strand_algebra.specs.Projectors.{IsProjector, quantum_residue}
use Rattle.strand_algebra.proofs.ProjectorLaws.{projector_element, closure_value}
use Rattle.std.proofs.lemmas.List.FromFn.{length-map-range_with_len}
use Rattle.cables.specs.Strands.{strands_of, first_names}
use Rattle.cables.specs.CableNodes.{box_node}
use Rattle.cables.specs.Cables.{loop_nodes, loops_at}
use Rattle.cables.specs.Laws.{LoopOfStrandsLaw}
use Rattle.box_laws.proofs.ClosedBoxes.{closed_box}

-- The box of a loop is the closure of its element.
box_closed : (m d n group label : ℕ) (f : List Term) → IsElement m n f →
    value m d record { nodes = box_node group f (first_names n label) (reverse (first_names n label)) ∷ []; free_loops = 0 } ≡ close m d n f
box_closed m d n group label f e = closed_box m d n group f (λ i. 16 * label + 2 * i) e (λ i j hi hj same. omega (arith, same))

loop_below : (p : Parameters) → loop_value p < p.modulus
unfolding loop_value
loop_below p = residue_below p.modulus _ (let h = p.meets.modulus.0 in omega (arith, h))

delta_is : (p : Parameters) (n : ℕ) → quantum_residue p.modulus (loop_value p) n ≡ delta p n
unfolding delta
delta_is p n = refl

-- A LOOP OF n STRANDS IS WORTH Delta_n
pub loop_law : LoopOfStrandsLaw
loop_law p box n group label few projector = by_colour n few projector
  where
    some_modulus : 0 < p.modulus
    some_modulus = let h = p.meets.modulus.0 in omega (arith, h)

    by_colour : (n : ℕ) → n ≤ 8 → IsProjector p.modulus (loop_value p) n (box n) →
        value p.modulus (loop_value p) record { nodes = loop_nodes (strands_of (λ l. n) (λ l. false) box) group (first_names n label); free_loops = loops_at (first_names n label) } ≡ delta p n
    by_colour zero few projector =
        no_nodes p.modulus (loop_value p) 0 ∙ ap (λ k. k % p.modulus) (pow_0 (loop_value p)) ∙ (let h = p.meets.modulus.0 in let lt : 1 < p.modulus = omega (arith, h) in mod-eq_of_lt lt) ∙ sym (delta_first_law p).0
    by_colour (suc zero) few projector =
        no_nodes p.modulus (loop_value p) 1
        ∙ ap (λ k. k % p.modulus) (pow_1 (loop_value p))
        ∙ mod-eq_of_lt (loop_below p)
        ∙ sym (delta_first_law p).1
    by_colour (suc (suc n)) few projector =
        by_length (suc (suc n)) (length (first_names (suc (suc n)) label)) (sym (length-map-range_with_len (λ i. 16 * label + 2 * i) 0 (suc (suc n)))) few projector
      where
        by_length : (n k : ℕ) → n ≡ k → n ≤ 8 → IsProjector p.modulus (loop_value p) n (box n) →
            value p.modulus (loop_value p) record { nodes = box_node group (box k) (first_names n label) (reverse (first_names n label)) ∷ []; free_loops = 0 } ≡ delta p n
        by_length n k e few projector =
            ap (λ i. value p.modulus (loop_value p) record { nodes = box_node group (box i) (first_names n label) (reverse (first_names n label)) ∷ []; free_loops = 0 }) (sym e)
            ∙ box_closed p.modulus (loop_value p) n group label (box n) (projector_element p.modulus (loop_value p) n (box n) some_modulus projector)
            ∙ closure_value p.modulus (loop_value p) n (box n) some_modulus few projector
            ∙ delta_is p n
