-- The Kirby sum and the surgery value (Lickorish, ch. 13), over the colours of the parameters' form.
--
--     colour_lists colours n      the lists of n of these colours, in dictionary order
--     deltas p colours            the product of the Delta of the colours
--     kirby p items framings      over all lists of one colour for each component, that product times the framed value
--     omega_sum p t               over all colours n, Delta_n^2 mu_n^t: Omega+ at 1, Omega- at -1
--     plus_count diagram, minus_count diagram      b+ and b-: the indices of inertia of the linking matrix
--     surgery p diagram           the Kirby sum times Omega+ to the power -b+ and Omega- to the power -b-
--     HasSurgeryValue p diagram   where it exists
--
-- At 41, 2, 5 the unknot framed 0, 1, -1, 2, 3 has the surgery values 33, 1, 1, 0, 12.
use Rattle.std.specs.Prelude.{ℕ, zero, suc, ◌+◌, ◌<◌, ℤ, pos, negsuc, ◌+ℤ◌, ◌*ℤ◌, List, [], ◌∷◌, ◌++◌, length, map}
use Rattle.std.specs.List.{AllByRecursion, flat_map}
use Rattle.ring_identities.specs.Residues.{residue}
use Rattle.ring_identities.specs.Powers.{power, IsInverse}
use Rattle.inertia_laws.specs.Indices.{positive_index, negative_index}
use Rattle.planar_check.specs.Framings.{FramedDiagram, linking_entry}
use Rattle.strand_algebra.specs.Projectors.{inverse_of}
use Rattle.cables.specs.Nets.{HasProjector}
use Rattle.root_quantum.specs.Parameters.{Parameters}
use Rattle.root_quantum.specs.Colours.{form_colours}
use Rattle.root_quantum.specs.QuantumNumbers.{delta, twist}
use Rattle.pd_reader.specs.declared.item.Item.{Item}
use Rattle.planar_check.specs.Components.{least_labels}
use Rattle.coloured_values.specs.Coloured.{framed}

-- The last colour changes fastest.
abbrev pub colour_lists : List ℕ → ℕ → List (List ℕ)
colour_lists colours zero = [] ∷ []
colour_lists colours (suc n) = flat_map (λ list. map (λ colour. list ++ colour ∷ []) colours) (colour_lists colours n)

abbrev pub deltas : Parameters → List ℕ → ℤ
deltas p [] = pos 1
deltas p (colour ∷ colours) = pos (delta p colour) *ℤ deltas p colours

-- The sum of a list of whole numbers.
abbrev pub sum_over : {X : Type 0} → (X → ℤ) → List X → ℤ
sum_over f [] = pos 0
sum_over f (x ∷ xs) = f x +ℤ sum_over f xs

unfoldable pub kirby : Parameters → List Item → List ℤ → ℕ
kirby p items framings =
    residue p.modulus
    (sum_over (λ colours. deltas p colours *ℤ pos (framed p items framings colours)) (colour_lists (form_colours p) (length (least_labels items))))

unfoldable pub omega_sum : Parameters → ℤ → ℕ
omega_sum p t =
    residue p.modulus (sum_over (λ n. pos (delta p n) *ℤ pos (delta p n) *ℤ pos (twist p n t)) (form_colours p))

-- The linking matrix with the framings on its diagonal; its places count from 0.
abbrev pub matrix_of : FramedDiagram → ℕ → ℕ → ℤ
matrix_of diagram i j = linking_entry diagram (i + 1) (j + 1)

abbrev pub component_count : FramedDiagram → ℕ
component_count diagram = length (least_labels diagram.items)

-- b+ and b-, the indices of inertia of the linking matrix.
abbrev pub plus_count : FramedDiagram → ℕ
plus_count diagram = positive_index (component_count diagram) (matrix_of diagram)

abbrev pub minus_count : FramedDiagram → ℕ
minus_count diagram = negative_index (component_count diagram) (matrix_of diagram)

-- The inverse of Omega for framing e, found by trying each residue.
abbrev pub omega_inverse : Parameters → ℤ → ℕ
omega_inverse p e = inverse_of p.modulus (omega_sum p e)

-- The Kirby sum times Omega+ to the power -b+ and Omega- to the power -b-.
unfoldable pub surgery : Parameters → FramedDiagram → ℕ
surgery p diagram =
    residue p.modulus
    (pos (kirby p diagram.items diagram.framings)
    *ℤ power (pos (omega_inverse p (pos 1))) (plus_count diagram)
    *ℤ power (pos (omega_inverse p (negsuc 0))) (minus_count diagram))

-- Where it exists: each Omega with a count above 0 has an inverse, and where there is a component, so have the Delta that the
-- projectors of its colours need.
pub record HasSurgeryValue (p : Parameters) (diagram : FramedDiagram) : Type 0 where
  pub plus : 0 < plus_count diagram → IsInverse p.modulus (omega_sum p (pos 1)) (omega_inverse p (pos 1))
  pub minus : 0 < minus_count diagram → IsInverse p.modulus (omega_sum p (negsuc 0)) (omega_inverse p (negsuc 0))
  pub projectors : 0 < component_count diagram → AllByRecursion (λ n. HasProjector p n) (form_colours p)
