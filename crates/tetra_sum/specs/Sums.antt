-- The sum over coloured tetrahedra. (This project's own, after Turaev and Viro; it has no normalisation for vertices.)
--
--     all_labels lists                  the labels of faces, or of tetrahedra, as they stand
--     text_labels items                 the labels that stand in the text, each once, increasing
--     colours_at labels colours face    the colours of the labels of a face, or of a tetrahedron
--     product_over f list               a product of whole numbers
--     tets p labels colours ts          the product of the tet of tetrahedra
--     theta_inverses p labels colours faces      the product of the inverses of the theta of faces
--     weight p items colours            of a colouring that all faces allow the product of the Delta of its labels' colours, the tet of
--                                       all tetrahedra and the inverses of the theta of all faces; of any other 0
--     colourings p items                the colourings of the labels by 0 to r-2, in dictionary order, the last label fastest
--     weight_sum p items                the sum of the weights over all colourings, as a residue
--
-- At 13, 2, 3 the face 1, 1, 2 allows 0, 0 and 1, 0 and has the sum 2.
use Rattle.std.specs.Prelude.{ℕ, ℤ, pos, ◌*ℤ◌, List, [], ◌∷◌, ◌++◌, length, map, unwrap_or, if◌then◌else◌}
use Rattle.std.specs.List.{flat_map}
use Rattle.ring_identities.specs.Residues.{residue}
use Rattle.root_quantum.specs.Parameters.{Parameters}
use Rattle.planar_check.specs.Components.{distinct}
use Rattle.strand_algebra.specs.Projectors.{inverse_of}
use Rattle.coloured_values.specs.Surgery.{colour_lists, deltas, sum_over}
use Rattle.tetra_reader.specs.Tetras.{faces_of, tetrahedra_of}
use Rattle.tetra_reader.specs.declared.item.TetraItem.{TetraItem}
use Rattle.tetra_sum.specs.Colourings.{colours_below, colour_of, are_allowed}
use Rattle.tetra_sum.specs.Nets.{theta, tet}

abbrev pub all_labels : List (List ℕ) → List ℕ
all_labels = flat_map (λ labels. labels)

abbrev pub text_labels : List TetraItem → List ℕ
text_labels items = distinct (all_labels (faces_of items) ++ all_labels (tetrahedra_of items))

-- Each label of the text has a colour: no other is asked for.
abbrev pub colours_at : List ℕ → List ℕ → List ℕ → List ℕ
colours_at labels colours = map (λ label. unwrap_or (colour_of labels colours label) 0)

abbrev pub product_over : {X : Type 0} → (X → ℤ) → List X → ℤ
product_over f [] = pos 1
product_over f (x ∷ xs) = f x *ℤ product_over f xs

abbrev pub tet_at : Parameters → List ℕ → List ℕ → List ℕ → ℤ
tet_at p labels colours tetrahedron = pos (tet p (colours_at labels colours tetrahedron))

abbrev pub tets : Parameters → List ℕ → List ℕ → List (List ℕ) → ℤ
tets p labels colours = product_over (tet_at p labels colours)

abbrev pub theta_inverse_at : Parameters → List ℕ → List ℕ → List ℕ → ℤ
theta_inverse_at p labels colours face = pos (inverse_of p.modulus (theta p (colours_at labels colours face)))

abbrev pub theta_inverses : Parameters → List ℕ → List ℕ → List (List ℕ) → ℤ
theta_inverses p labels colours = product_over (theta_inverse_at p labels colours)

abbrev pub weight : Parameters → List TetraItem → List ℕ → ℤ
weight p items colours =
    if are_allowed p.level (text_labels items) colours (faces_of items)
    then deltas p colours *ℤ tets p (text_labels items) colours (tetrahedra_of items) *ℤ theta_inverses p (text_labels items) colours (faces_of items)
    else pos 0

abbrev pub colourings : Parameters → List TetraItem → List (List ℕ)
colourings p items = colour_lists (colours_below p.level) (length (text_labels items))

-- OVER ALL COLOURINGS
unfoldable pub weight_sum : Parameters → List TetraItem → ℕ
weight_sum p items = residue p.modulus (sum_over (weight p items) (colourings p items))
