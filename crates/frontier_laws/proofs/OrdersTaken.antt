-- The nodes that an order of places takes: they keep what holds of the nodes, and all of them are the network.
use Rattle.std.proofs.Common.{◌≡◌, ℕ, ◌<◌, ◌≤◌, List, [], ◌∷◌, ◌++◌, map, length, refl, sym, ap, subst, ◌∙◌, arith, append-nil}
use Rattle.std.specs.List.{All, range_with_len, sum_by}
use Rattle.std.specs.List.Sorted.{IsPermutation, IsStrictlyIncreasing}
use Rattle.std.proofs.lemmas.List.{length-map, map-append, map_push}
use Rattle.std.proofs.lemmas.List.Elements.{All-get_or, All-map, All-weaker}
use Rattle.std.proofs.lemmas.List.FromFn.{fill_by_all}
use Rattle.std.proofs.lemmas.List.Sorted.{IsPermutation-map, sum_by-IsPermutation}
use Rattle.std.proofs.lemmas.List.Sums.{sum_by-cons}
use Rattle.state_sums.specs.Networks.{Node, Network, IsNode, IsNetwork, names_of}
use Rattle.state_sums.specs.StateSums.{value}
use Rattle.state_sums.proofs.NetworkLaws.{any_order}
use Rattle.arc_gluing.specs.Laws.{AreFew}
use Rattle.list_lemmas.specs.Times.{times_in}
use Rattle.arc_gluing.proofs.EachState.{names_of-append}
use Rattle.list_lemmas.proofs.Times.{member_of_times, times_in-append}
use Rattle.frontier_laws.specs.Orders.{node_at, taken, left_after, open_names, view_after, IsPartOrder}
use Rattle.frontier_laws.proofs.OpenNames.{open_names-same, open_names-closed}
use Rattle.frontier_laws.proofs.OrdersPlaces.{left_increasing, left_all_below, order_and_left, taken_again}

-- One more place takes one more node.
pub taken_more : (nodes : List Node) (order : List ℕ) (place : ℕ) → taken nodes (order ++ place ∷ []) ≡ taken nodes order ++ node_at nodes place ∷ []
taken_more nodes order place = map_push (node_at nodes) order place

-- Each place takes one node.
pub taken_length : (nodes : List Node) (order : List ℕ) → length (taken nodes order) ≡ length order
taken_length nodes order = length-map order (node_at nodes)

-- What holds of each node holds of each that is taken.
pub All-taken : (P : Node → Type 0) (nodes : List Node) (order : List ℕ) → IsPartOrder (length nodes) order → All P nodes → All P (taken nodes order)
All-taken P nodes order h all =
    All-map P (node_at nodes) order
    (All-weaker (λ place. place < length nodes) (λ place. P (node_at nodes place)) (λ place l. All-get_or P nodes place record { group = 0; ends = []; terms = [] } l all) order h.below)

-- ---- how often a name stands in nodes in another order
times_names : (nodes : List Node) (x : ℕ) → times_in (names_of nodes) x ≡ sum_by (λ node. times_in node.ends x) nodes
times_names [] x = refl
times_names (node ∷ nodes) x =
    let ih = times_names nodes x in
    let a = times_in-append node.ends (names_of nodes) x in
    let b = sum_by-cons (λ (one : Node). times_in one.ends x) node nodes in
    omega (arith, ih, a, b)

times_permuted : (nodes others : List Node) → IsPermutation nodes others → (x : ℕ) → times_in (names_of others) x ≡ times_in (names_of nodes) x
times_permuted nodes others p x = times_names others x ∙ sum_by-IsPermutation (λ node. times_in node.ends x) nodes others p ∙ sym (times_names nodes x)

-- All places take all nodes.
taken_all : (nodes : List Node) → taken nodes (range_with_len 0 (length nodes)) ≡ nodes
taken_all nodes = sym (fill_by_all (node_at nodes) nodes (length nodes) record { group = 0; ends = []; terms = [] } refl (λ k l. refl))

-- No name of a network stands more than twice.
pub AreFew-network : (network : Network) → IsNetwork network → AreFew network.nodes
AreFew-network network h x =
    let twice : 1 ≤ times_in (names_of network.nodes) x → times_in (names_of network.nodes) x ≡ 2 = λ some. h.twice x (member_of_times x (names_of network.nodes) some) in
    grind (arith, twice)

module _ (nodes : List Node) (order : List ℕ) (h : IsPartOrder (length nodes) order) where
  -- THE NODES THAT ARE TAKEN AND THOSE THAT ARE LEFT ARE ALL NODES
  pub taken_and_left : IsPermutation nodes (taken nodes order ++ taken nodes (left_after (length nodes) order))
  taken_and_left =
      let left = left_after (length nodes) order in
      let p = IsPermutation-map (node_at nodes) (range_with_len 0 (length nodes)) (order ++ left) (order_and_left (length nodes) order h) in
      let q = subst (λ xs. IsPermutation xs (map (node_at nodes) (order ++ left))) (taken_all nodes) p in
      subst (IsPermutation nodes) (map-append (node_at nodes) order left) q

  -- Where no name stands more than twice, none does in the nodes that are taken.
  pub AreFew-taken : AreFew nodes → AreFew (taken nodes order)
  AreFew-taken few x =
      let rest = taken nodes (left_after (length nodes) order) in
      let a = times_permuted nodes (taken nodes order ++ rest) taken_and_left x in
      let b = ap (λ names. times_in names x) (names_of-append (taken nodes order) rest) in
      let c = times_in-append (names_of (taken nodes order)) (names_of rest) x in
      let d = few x in
      omega (arith, a, b, c, d)

  -- Where no place is left, the nodes are taken in another order.
  pub whole_permuted : left_after (length nodes) order ≡ [] → IsPermutation nodes (taken nodes order)
  whole_permuted none =
      let p = subst (λ left. IsPermutation nodes (taken nodes order ++ taken nodes left)) none taken_and_left in
      subst (IsPermutation nodes) (append-nil (taken nodes order)) p

  -- The names that are open are those of the nodes that are not left.
  pub view_names : open_names (taken nodes order) ≡ open_names (taken nodes (left_after (length nodes) (left_after (length nodes) order)))
  view_names =
      let again = left_after (length nodes) (left_after (length nodes) order) in
      let p = IsPermutation-map (node_at nodes) order again (taken_again (length nodes) order h) in
      open_names-same (taken nodes order) (taken nodes again) (λ x. sym (times_permuted (taken nodes order) (taken nodes again) p x))

-- ---- of a network
module _ (network : Network) (order : List ℕ) (net : IsNetwork network) (h : IsPartOrder (length network.nodes) order) where
  -- Each term of the nodes that are taken pairs their ends.
  pub AreNodes-taken : All IsNode (taken network.nodes order)
  AreNodes-taken = All-taken IsNode network.nodes order h net.nodes

  -- No name stands more than twice in the nodes that are taken.
  pub AreFew-order : AreFew (taken network.nodes order)
  AreFew-order = AreFew-taken network.nodes order h (AreFew-network network net)

  -- WHERE NO PLACE IS LEFT, THE NODES THAT ARE TAKEN HAVE THE NETWORK'S VALUE
  pub whole_value : left_after (length network.nodes) order ≡ [] → (m delta : ℕ) → value m delta record { nodes = taken network.nodes order; free_loops = network.free_loops } ≡ value m delta network
  whole_value none m delta = any_order m delta network.free_loops network.nodes (taken network.nodes order) net.nodes (whole_permuted network.nodes order h none)

  -- Then no name is open.
  pub whole_closed : left_after (length network.nodes) order ≡ [] → open_names (taken network.nodes order) ≡ []
  whole_closed none =
      open_names-same (taken network.nodes order) network.nodes (times_permuted network.nodes (taken network.nodes order) (whole_permuted network.nodes order h none))
      ∙ open_names-closed network.nodes net.twice

-- WHAT A VIEW SHOWS: places of the network, increasing, and the names that are open in the nodes not left
pub shown_in_view : (network : Network) (order : List ℕ) → IsPartOrder (length network.nodes) order →
    All (λ place. place < length network.nodes) (view_after network order).left
    × IsStrictlyIncreasing (view_after network order).left
    × ((view_after network order).names ≡ open_names (taken network.nodes (left_after (length network.nodes) (view_after network order).left)))
shown_in_view network order h = (left_all_below (length network.nodes) order, left_increasing (length network.nodes) order, view_names network.nodes order h)
