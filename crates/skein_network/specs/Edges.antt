-- What is known of the edges of a diagram or a net, as a list: for each label its colour, and whether its edge has a box.
--
--     colour_at edges label       the colour of the label, 0 where it isn't listed
--     boxed_at edges label        its edge has a box
--     edges_of names colours      the edges with these labels and colours, with a box where the colour is at least 2
--     diagram_edge items colours label     the edge of a diagram with this label, where each component has its colour
--     strands_at p edges          the strands of these edges, with the projectors as boxes
use Rattle.std.specs.Prelude.{ℕ, ◌==◌, nat_le, Bool, false, if◌then◌else◌, List, [], ◌∷◌}
use Rattle.root_quantum.specs.Parameters.{Parameters}
use Rattle.pd_reader.specs.declared.item.Item.{Item}
use Rattle.coloured_values.specs.Coloured.{colour_of, is_boxed}
use Rattle.cables.specs.Strands.{Strands, strands_of}
use Rattle.cables.specs.Nets.{projector_of}
use Rattle.skein_network.specs.declared.edge.Edge.{Edge}

abbrev pub colour_at : List Edge → ℕ → ℕ
colour_at [] label = 0
colour_at (edge ∷ edges) label = if edge.label == label then edge.colour else colour_at edges label

abbrev pub boxed_at : List Edge → ℕ → Bool
boxed_at [] label = false
boxed_at (edge ∷ edges) label = if edge.label == label then edge.boxed else boxed_at edges label

abbrev pub edges_of : List ℕ → List ℕ → List Edge
edges_of (label ∷ names) (colour ∷ colours) = record { label = label; colour = colour; boxed = nat_le 2 colour } ∷ edges_of names colours
edges_of names colours = []

abbrev pub diagram_edge : List Item → List ℕ → ℕ → Edge
diagram_edge items colours label = record { label = label; colour = colour_of items colours label; boxed = is_boxed items colours label }

abbrev pub strands_at : Parameters → List Edge → Strands
strands_at p edges = strands_of (colour_at edges) (boxed_at edges) (projector_of p)
