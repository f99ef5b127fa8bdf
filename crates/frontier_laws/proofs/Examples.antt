-- Worked values of the definitions.
use Rattle.std.proofs.Common.{◌≡◌, refl, ℕ, [], ◌∷◌, Some, None}
use Rattle.std.specs.List.{range_with_len}
use Rattle.graph_parts.specs.Parts as P
use Rattle.state_sums.specs.Networks.{Node, Network}
use Rattle.frontier_laws.specs.Orders.{listed_of, greedy_of, given_of, order_by, open_names}
use Rattle.frontier_laws.specs.FunctionOrders.{first_limit, nodes_by}
use Rattle.frontier_laws.specs.Rises.{rise}
use Rattle.frontier_laws.specs.Turns.{turns, turns_of}

-- A crossing on four names.
crossing : ℕ → ℕ → ℕ → ℕ → ℕ → Node
crossing group a b c d = record {
  group = group;
  ends = a ∷ b ∷ c ∷ d ∷ [];
  terms = record { weight = 2; partner = 1 ∷ 0 ∷ 3 ∷ 2 ∷ [] } ∷ record { weight = 21; partner = 3 ∷ 2 ∷ 1 ∷ 0 ∷ [] } ∷ [];
}

trefoil : Network
trefoil = record { nodes = crossing 1 1 4 2 5 ∷ crossing 2 3 6 4 1 ∷ crossing 3 5 2 6 3 ∷ []; free_loops = 0 }

trefoil_turns : turns_of trefoil.nodes ≡ 10
unfolding trefoil crossing P.part
trefoil_turns = refl

trefoil_listed : order_by listed_of trefoil 3 ≡ 0 ∷ 1 ∷ 2 ∷ []
unfolding trefoil crossing P.part
trefoil_listed = refl

trefoil_greedy : order_by greedy_of trefoil 3 ≡ 0 ∷ 1 ∷ 2 ∷ []
unfolding trefoil crossing P.part
trefoil_greedy = refl

trefoil_given : order_by (given_of (3 ∷ 1 ∷ 2 ∷ [])) trefoil 3 ≡ 2 ∷ 0 ∷ 1 ∷ []
unfolding trefoil crossing P.part
trefoil_given = refl

trefoil_turns_given : turns trefoil (2 ∷ 0 ∷ 1 ∷ []) ≡ 10
unfolding trefoil crossing P.part
trefoil_turns_given = refl

trefoil_open : open_names (crossing 1 1 4 2 5 ∷ crossing 2 3 6 4 1 ∷ []) ≡ 2 ∷ 3 ∷ 5 ∷ 6 ∷ []
unfolding trefoil crossing P.part
trefoil_open = refl

-- Of two nodes on the same 26 names the first leaves all of them open.
broad : Node
broad = record { group = 1; ends = range_with_len 1 26; terms = [] }

broad_limit : first_limit (broad ∷ broad ∷ []) ≡ Some 1
unfolding broad P.part
broad_limit = refl

trefoil_within : first_limit (nodes_by greedy_of trefoil) ≡ None
unfolding trefoil crossing P.part
trefoil_within = refl

-- Of the ends 3, 4, 4, 5 one opens and one closes.
even_rise : rise (1 ∷ 2 ∷ 3 ∷ []) (3 ∷ 4 ∷ 4 ∷ 5 ∷ []) ≡ 24
even_rise = refl
