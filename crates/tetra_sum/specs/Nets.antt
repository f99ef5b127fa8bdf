-- The two nets of the sum (Kauffman and Lins): two vertices joined by three edges, and the edges of a tetrahedron.
--
--     theta_net, tetrahedron_net      the nets
--     net_value p net colours         the value of a net whose labels have these colours, or the first limit that its sum meets when the
--                                     nodes are taken as they are listed
--     theta p colours                 the value of the first at three colours, apart from limits
--     tet p colours                   the value of the second at six
--
-- At 41, 2, 5 the theta of 1, 1, 2 is 35.
use Rattle.std.specs.Prelude.{ℕ, List, [], ◌∷◌, Result, Ok, Err}
use Rattle.root_quantum.specs.Parameters.{Parameters}
use Rattle.pd_reader.specs.declared.item.NetItem.{NetItem}
use Rattle.pd_reader.specs.declared.item.NetItem.TheVariants.{Y}
use Rattle.cables.specs.Nets.{cabled_net, coloured_net}
use Rattle.frontier_sweep.specs.Next.{next_of}
use Rattle.frontier_sweep.specs.SweepResults.{sweep}
use Rattle.frontier_sweep.specs.declared.fault.SweepFault.{SweepFault}
use Rattle.frontier_sweep.specs.declared.order.Order.TheVariants.{Listed}
use Rattle.skein_network.specs.Refusals.{net_colour}

abbrev pub theta_net : List NetItem
theta_net = Y (1 ∷ 2 ∷ 3 ∷ []) ∷ Y (3 ∷ 2 ∷ 1 ∷ []) ∷ []

abbrev pub tetrahedron_net : List NetItem
tetrahedron_net = Y (1 ∷ 2 ∷ 3 ∷ []) ∷ Y (1 ∷ 5 ∷ 6 ∷ []) ∷ Y (2 ∷ 6 ∷ 4 ∷ []) ∷ Y (3 ∷ 4 ∷ 5 ∷ []) ∷ []

-- The value, where the sum meets no limit.
abbrev pub by_turns : ℕ → Result ℕ SweepFault → Result ℕ SweepFault
by_turns value (Ok turns) = Ok value
by_turns value (Err fault) = Err fault

abbrev pub net_value : Parameters → List NetItem → List ℕ → Result ℕ SweepFault
net_value p net colours = by_turns (coloured_net p net (net_colour net colours)) (sweep (next_of Listed) (cabled_net p net (net_colour net colours)))

abbrev pub theta : Parameters → List ℕ → ℕ
theta p colours = coloured_net p theta_net (net_colour theta_net colours)

abbrev pub tet : Parameters → List ℕ → ℕ
tet p colours = coloured_net p tetrahedron_net (net_colour tetrahedron_net colours)
