-- Values of diagrams with colours (Lickorish, ch. 13): one colour for each component, and a box on its least label where the
-- colour is at least 2 and the label has places.
--
--     colour_of items colours label      the colour of the label's component
--     is_boxed items colours label       the label is the least of its component, which has a colour of at least 2
--     diagram_strands p items colours    the strands of a diagram, one colour for each component
--     cabled p items colours             the cable of a diagram
--     coloured p items colours           its value; `bracket` is that with all colours 1
--     twists p items number framings colours     the product of mu_n^(t - w) over the components from the number on, for
--                                        colours n, framings t and writhes w
--     framed p items framings colours    the value of a framed diagram: coloured times that product
--
-- At 41, 2, 5 the curl X[1,1,2,2] of colour 2 has the value 22.
use Rattle.std.specs.Prelude.{ℕ, ◌+◌, ◌-◌, ◌==◌, ◌&&◌, nat_le, Bool, ℤ, pos, ◌*ℤ◌, ◌-ℤ◌, List, ◌∷◌, slice_index}
use Rattle.state_sums.specs.Networks.{Network}
use Rattle.state_sums.specs.StateSums.{value}
use Rattle.ring_identities.specs.Residues.{residue}
use Rattle.root_quantum.specs.Parameters.{Parameters}
use Rattle.root_quantum.specs.QuantumNumbers.{loop_value, twist}
use Rattle.pd_reader.specs.declared.item.Item.{Item}
use Rattle.planar_check.specs.Components.{component_least, number_of}
use Rattle.planar_check.specs.Signs.{writhe}
use Rattle.cables.specs.Strands.{Strands, strands_of}
use Rattle.cables.specs.Cables.{cable, as_net}
use Rattle.cables.specs.Nets.{projector_of}

-- Components count from 1.
abbrev pub colour_of : List Item → List ℕ → ℕ → ℕ
colour_of items colours label = slice_index colours (number_of items label - 1)

abbrev pub is_boxed : List Item → List ℕ → ℕ → Bool
is_boxed items colours label = nat_le 2 (colour_of items colours label) && component_least items label == label

abbrev pub diagram_strands : Parameters → List Item → List ℕ → Strands
diagram_strands p items colours = strands_of (colour_of items colours) (is_boxed items colours) (projector_of p)

abbrev pub cabled : Parameters → List Item → List ℕ → Network
cabled p items colours = cable p (diagram_strands p items colours) (as_net items)

unfoldable pub coloured : Parameters → List Item → List ℕ → ℕ
coloured p items colours = value p.modulus (loop_value p) (cabled p items colours)

-- The product of mu_n^(t - w) over the components from the given number on.
abbrev pub twists : Parameters → List Item → ℕ → List ℤ → List ℕ → ℤ
twists p items number (t ∷ framings) (n ∷ colours) = pos (twist p n (t -ℤ writhe items number)) *ℤ twists p items (number + 1) framings colours
twists p items number framings colours = pos 1

unfoldable pub framed : Parameters → List Item → List ℤ → List ℕ → ℕ
framed p items framings colours = residue p.modulus (pos (coloured p items colours) *ℤ twists p items 1 framings colours)
