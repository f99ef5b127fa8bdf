-- The bracket of a diagram (Lickorish, ch. 13): the value of the network that has a node for each crossing and a free loop
-- for each closed curve without crossings. It is the value of the diagram whose components all have colour 1.
--
--     strand_name label                  the name of the one strand of an edge: 16 times its label
--     crossing_nodes p group items       the nodes of the crossings, in the order of the items, with groups from `group` on
--     loop_count items                   the number of items `Loop`
--     bracket_network p items            the network
--     bracket p items                    its value: 10 for the trefoil X[1,4,2,5], X[3,6,4,1], X[5,2,6,3] at 41, 2, 5
--
-- The group of a crossing's node is the crossing's number among the items that have places, from 1.
use Rattle.std.specs.Prelude.{ℕ, ◌+◌, ◌*◌, List, [], ◌∷◌, map}
use Rattle.state_sums.specs.Networks.{Node, Network}
use Rattle.state_sums.specs.StateSums.{value}
use Rattle.root_quantum.specs.Parameters.{Parameters}
use Rattle.root_quantum.specs.QuantumNumbers.{loop_value}
use Rattle.pd_reader.specs.declared.item.Item.{Item}
use Rattle.pd_reader.specs.declared.item.Item.TheVariants.{X, Loop}
use Rattle.diagram_brackets.specs.Crossings.{crossing_node}

-- The name of the one strand of an edge.
abbrev pub strand_name : ℕ → ℕ
strand_name label = 16 * label

-- The nodes of the crossings, with groups from `group` on.
abbrev pub crossing_nodes : Parameters → ℕ → List Item → List Node
crossing_nodes p group [] = []
crossing_nodes p group (X slots ∷ items) = crossing_node p group (map strand_name slots) ∷ crossing_nodes p (group + 1) items
crossing_nodes p group (Loop label ∷ items) = crossing_nodes p group items

-- The number of items `Loop`.
abbrev pub loop_count : List Item → ℕ
loop_count [] = 0
loop_count (X slots ∷ items) = loop_count items
loop_count (Loop label ∷ items) = loop_count items + 1

abbrev pub bracket_network : Parameters → List Item → Network
bracket_network p items = record { nodes = crossing_nodes p 1 items; free_loops = loop_count items }

-- The bracket: all components have colour 1.
unfoldable pub bracket : Parameters → List Item → ℕ
bracket p items = value p.modulus (loop_value p) (bracket_network p items)
