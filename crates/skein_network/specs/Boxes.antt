-- The boxes at an item, label by label. They are `box_nodes` of `cables`.
--
--     strands_box p n group own_names label      the box on n strands of a label, whose second place may have names of its own
--     label_box strands group label              the box of a label
--     boxes_among strands group seen labels      the boxes of those labels whose edges have one and aren't seen before
--     boxes_at strands group seen slots          the boxes of the edges that have their first place at these slots
use Rattle.std.specs.Prelude.{ℕ, ◌==◌, ◌&&◌, not, Bool, List, length, map}
use Rattle.std.specs.List.{filter}
use Rattle.std.specs.Set.{is_member}
use Rattle.state_sums.specs.Networks.{Node}
use Rattle.planar_check.specs.Components.{distinct}
use Rattle.root_quantum.specs.Parameters.{Parameters}
use Rattle.cables.specs.Strands.{Strands, first_names, second_names}
use Rattle.cables.specs.Nets.{projector_of}
use Rattle.cables.specs.CableNodes.{box_node}

-- The box on n strands of a label.
abbrev pub strands_box : Parameters → ℕ → ℕ → Bool → ℕ → Node
strands_box p n group own_names label = box_node group (projector_of p n) (first_names n label) (second_names n own_names label)

-- The box of a label.
abbrev pub label_box : Strands → ℕ → ℕ → Node
label_box strands group label = box_node group (strands.box (length (strands.first label))) (strands.first label) (strands.second label)

-- The boxes of those labels whose edges have one and aren't seen before.
abbrev pub boxes_among : Strands → ℕ → List ℕ → List ℕ → List Node
boxes_among strands group seen labels = map (label_box strands group) (filter (λ label. strands.boxed label && not (is_member ◌==◌ seen label)) labels)

-- By increasing label.
abbrev pub boxes_at : Strands → ℕ → List ℕ → List ℕ → List Node
boxes_at strands group seen slots = boxes_among strands group seen (distinct slots)
