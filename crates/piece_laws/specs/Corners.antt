-- The plain moves by corners. A face meets a crossing in a corner: two slots, one behind the other. A crossing is told by its names from
-- the first slot of a corner on, so one law serves all slots; of the corner's two slots the one lies over, the other under, by the
-- parity of the first.
--
--                 y
--                 |                    corner k a b w x y z: slot k is w, and x, y, z follow;
--          z -----+----- x             its face comes in by w and leaves by x
--                 |
--                 w
--
--     corner k a b w x y z     the crossing with the weights a and b whose slot k is w; slots are counted on from 3 to 0
--     corner_weight k a b      the weight on the pairs wx and yz: a where k is even, else b
--
-- and, at names that are written out, first the open ones, then the inner ones:
--
--     of_nodes nodes                             the nodes as a piece, with no free loop
--     curl_corner a b, curl_arcs w               a crossing with both slots of the corner joined; its strand, of weight w
--     bigon_corners a b, bigon_arcs              two crossings round a face of two places; their two strands
--     triangle_corners a b, triangle_moved a b   three crossings round a face of three places; the same where each strand meets
--                                                the other two in the other order
use Rattle.std.specs.Prelude.{ℕ, zero, suc, List, [], ◌∷◌}
use Rattle.state_sums.specs.LocalSums.{crossing, arc, weighted_arc}
use Rattle.state_sums.specs.Networks.{Node, Network}
use Rattle.piece_laws.specs.Arcs.{arcs_of}

-- Slot k is w.
abbrev pub corner : ℕ → ℕ → ℕ → ℕ → ℕ → ℕ → ℕ → Node
corner zero a b w x y z = crossing a b w x y z
corner (suc k) a b w x y z = corner k a b z w x y

-- The weight on joining the corner's two slots.
abbrev pub corner_weight : ℕ → ℕ → ℕ → ℕ
corner_weight zero a b = a
corner_weight (suc k) a b = corner_weight k b a

-- With no free loop.
abbrev pub of_nodes : List Node → Network
of_nodes nodes = record { nodes = nodes; free_loops = 0 }

-- The strand from 0 to 1 has the curl 2.
abbrev pub curl_corner : ℕ → ℕ → List Node
curl_corner a b = crossing a b 2 2 0 1 ∷ []

abbrev pub curl_arcs : ℕ → List Node
curl_arcs w = weighted_arc w 2 0 ∷ arc 2 1 ∷ []

-- The strands 1-4-2 and 0-5-3 meet in two crossings round the face of 4 and 5.
abbrev pub bigon_corners : ℕ → ℕ → List Node
bigon_corners a b = crossing b a 4 5 2 3 ∷ crossing a b 5 4 0 1 ∷ []

abbrev pub bigon_arcs : List Node
bigon_arcs = arcs_of ((4, 1) ∷ (4, 2) ∷ (5, 0) ∷ (5, 3) ∷ [])

-- The strands 1-6-2, 3-7-4 and 5-8-0 meet in three crossings round the face of 6, 7 and 8.
abbrev pub triangle_corners : ℕ → ℕ → List Node
triangle_corners a b = crossing b a 7 8 4 5 ∷ crossing b a 6 7 2 3 ∷ crossing a b 8 6 0 1 ∷ []

abbrev pub triangle_moved : ℕ → ℕ → List Node
triangle_moved a b = crossing b a 3 0 7 8 ∷ crossing b a 1 4 6 7 ∷ crossing a b 5 2 8 6 ∷ []
