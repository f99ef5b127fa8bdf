-- The definitions compute: products and loops of hooks, the noncrossing pairings, and the first projectors.
use Rattle.std.proofs.Common.{◌≡◌, ℕ, ◌==◌, if◌then◌else◌, length, [], ◌∷◌, ◌++◌, map, refl, sym, arith, subst}
use Rattle.graph_parts.specs.Parts.{part, part_count}
use Rattle.ring_identities.specs.Residues.{residue}
use Rattle.root_quantum.specs.QuantumNumbers.{quantum_number}
use Rattle.strand_algebra.specs.StrandPairings.{product, product_loops, closure_loops, straight, hooked, widened, upside_down, half_turned}
use Rattle.strand_algebra.specs.Elements.{identity, hook, multiply, beside, scaled, close}
use Rattle.arc_gluing.specs.Pairings.{partners_of}
use Rattle.ring_identities.specs.Powers.{IsInverse}
use Rattle.strand_algebra.specs.GluedProducts.{below_names, above_names, left_names, glued_pairs}
use Rattle.strand_algebra.specs.Noncrossing.{noncrossing}
use Rattle.strand_algebra.specs.Projectors.{IsProjector, projector, quantum_residue, inverse_of, found_projector}

two_points : noncrossing 2 ≡ (1 ∷ 0 ∷ 3 ∷ 2 ∷ []) ∷ (3 ∷ 2 ∷ 1 ∷ 0 ∷ []) ∷ []
two_points = refl

three_points :
    noncrossing 3
    ≡ (1 ∷ 0 ∷ 3 ∷ 2 ∷ 5 ∷ 4 ∷ []) ∷ (1 ∷ 0 ∷ 5 ∷ 4 ∷ 3 ∷ 2 ∷ []) ∷ (3 ∷ 2 ∷ 1 ∷ 0 ∷ 5 ∷ 4 ∷ []) ∷ (5 ∷ 2 ∷ 1 ∷ 4 ∷ 3 ∷ 0 ∷ []) ∷ (5 ∷ 4 ∷ 3 ∷ 2 ∷ 1 ∷ 0 ∷ []) ∷ []
three_points = refl

-- Catalan's numbers
counts : map (λ n. length (noncrossing n)) (0 ∷ 1 ∷ 2 ∷ 3 ∷ 4 ∷ 5 ∷ 6 ∷ 7 ∷ 8 ∷ []) ≡ 1 ∷ 1 ∷ 2 ∷ 5 ∷ 14 ∷ 42 ∷ 132 ∷ 429 ∷ 1430 ∷ []
counts = refl

hooks : hooked 3 1 ≡ 1 ∷ 0 ∷ 3 ∷ 2 ∷ 5 ∷ 4 ∷ []
hooks = refl

other_hook : hooked 3 2 ≡ 5 ∷ 2 ∷ 1 ∷ 4 ∷ 3 ∷ 0 ∷ []
other_hook = refl

hook_square : product 3 (hooked 3 1) (hooked 3 1) ≡ hooked 3 1
unfolding part
hook_square = refl

hook_loop : product_loops 3 (hooked 3 1) (hooked 3 1) ≡ 1
unfolding part part_count
hook_loop = refl

-- of hook 2 on hook 1, the bottom pair is that of hook 1, and the top pair that of hook 2
hook_on_hook : product 3 (hooked 3 2) (hooked 3 1) ≡ 1 ∷ 0 ∷ 5 ∷ 4 ∷ 3 ∷ 2 ∷ []
unfolding part
hook_on_hook = refl

hook_chain : product 3 (product 3 (hooked 3 1) (hooked 3 2)) (hooked 3 1) ≡ hooked 3 1
unfolding part
hook_chain = refl

wide_hook : widened 2 (hooked 2 1) ≡ hooked 3 1
wide_hook = refl

three_loops : closure_loops 3 (straight 3) ≡ 3
unfolding part part_count
three_loops = refl

mirror : upside_down 3 (3 ∷ 2 ∷ 1 ∷ 0 ∷ 5 ∷ 4 ∷ []) ≡ 1 ∷ 0 ∷ 5 ∷ 4 ∷ 3 ∷ 2 ∷ []
mirror = refl

half_turn : half_turned 3 (hooked 3 1) ≡ hooked 3 2
half_turn = refl

-- a hook times itself is delta times the hook
hook_times_itself : multiply 41 6 3 (hook 41 3 1) (hook 41 3 1) ≡ scaled 41 3 6 (hook 41 3 1)
unfolding part part_count
hook_times_itself = refl

strand_beside : beside 41 1 (identity 41 1) ≡ identity 41 2
strand_beside = refl

-- the inverses of 6 and 35 modulo 41
inverses : ℕ → ℕ
inverses k = if k == 1 then 7 else 34

two_strands : projector 41 6 inverses 2 ≡ record { weight = 34; partner = 1 ∷ 0 ∷ 3 ∷ 2 ∷ [] } ∷ record { weight = 1; partner = 3 ∷ 2 ∷ 1 ∷ 0 ∷ [] } ∷ []
unfolding part part_count projector quantum_number residue inverses
two_strands = refl

-- Delta_0 to Delta_4
quantum_residues : map (quantum_residue 41 6) (0 ∷ 1 ∷ 2 ∷ 3 ∷ 4 ∷ []) ≡ 1 ∷ 6 ∷ 35 ∷ 40 ∷ 0 ∷ []
unfolding quantum_number residue
quantum_residues = refl

-- the same, by inverses that are found
found_two : found_projector 41 6 2 ≡ record { weight = 34; partner = 1 ∷ 0 ∷ 3 ∷ 2 ∷ [] } ∷ record { weight = 1; partner = 3 ∷ 2 ∷ 1 ∷ 0 ∷ [] } ∷ []
unfolding part part_count projector quantum_number residue inverse_of found_projector
found_two = refl

two_closed : close 41 6 2 (projector 41 6 inverses 2) ≡ 35
unfolding part part_count projector quantum_number residue inverses
two_closed = refl

three_closed : close 41 6 3 (projector 41 6 inverses 3) ≡ 40
unfolding part part_count projector quantum_number residue inverses
three_closed = refl

-- and that is a projector
first_inverse : IsInverse 41 (quantum_residue 41 6 1) (inverses 1)
unfolding quantum_number residue inverses
first_inverse = refl

is_two : IsProjector 41 6 2 (record { weight = 34; partner = 1 ∷ 0 ∷ 3 ∷ 2 ∷ [] } ∷ record { weight = 1; partner = 3 ∷ 2 ∷ 1 ∷ 0 ∷ [] } ∷ [])
is_two = record {
  inverse = inverses;
  are_inverses = λ k some few. (let one : 1 ≡ k = omega (arith, some, few) in subst (λ i. IsInverse 41 (quantum_residue 41 6 i) (inverses i)) one first_inverse);
  is = sym two_strands;
}

-- hook 2 on hook 1, as a gluing of the names 0 to 8
glued : partners_of (below_names 3 ++ above_names 3) (glued_pairs 3 (hooked 3 2) (hooked 3 1)) (left_names 3) ≡ product 3 (hooked 3 2) (hooked 3 1)
unfolding part
glued = refl
