-- One step of a frontier: what it asks, where it stops, and what it leaves. A frontier is that of the nodes taken so far, so each
-- is a law of these nodes and one more.
use Rattle.std.proofs.Common.{◌≡◌, ◌≢◌, ℕ, ◌+◌, ◌*◌, ◌<◌, ◌≤◌, ◌==◌, true, false, List, [], ◌∷◌, ◌++◌, take_all, length, slice_index, get_or, sym, ap, subst, ◌∙◌, arith}
use Rattle.std.specs.List.{All, remove}
use Rattle.std.specs.List.Sorted.{IsStrictlyIncreasing}
use Rattle.std.specs.Set.{is_member}
use Rattle.std.proofs.lemmas.List.{get_or_default, length-append}
use Rattle.std.proofs.Math.Nat.{mul-le-mul}
use Rattle.std.proofs.lemmas.List.Elements.{All-get_or}
use Rattle.state_sums.specs.Networks.{Node, Network, IsNode, WeightsBelow, names_of}
use Rattle.arc_gluing.specs.Laws.{AreFew}
use Rattle.arc_gluing.specs.Pairings.{AreOpen}
use Rattle.arc_pairing.specs.Gluing.{Seam, open_name_count}
use Rattle.arc_pairing.specs.Nodes.{IsShortNode, IsSmallNetwork}
use Rattle.frontier_laws.specs.Orders.{node_at, taken, left_after, open_names, IsPartOrder}
use Rattle.frontier_laws.specs.Tables.{contributions}
use Rattle.kept_tables.specs.KeptTables.{IsTableBy, IsGathered}
use Rattle.frontier_sweep.proofs.KeptPlaces.{count_more, count_open, few_more, open_more}
use Rattle.frontier_sweep.proofs.TablesBy.{counted, gathered_by, gathered_count, overflowing, spelled}
use Rattle.frontier_laws.specs.Turns.{IsWithinAt, IsWithin, IsWideAt, IsFullAt, open_count, pairing_count, turns, turns_of}
use Rattle.frontier_laws.proofs.OpenNames.{AreOpen-open_names, open_names-only}
use Rattle.frontier_laws.proofs.OpenWith.{once_open}
use Rattle.frontier_laws.specs.Rises.{rise}
use Rattle.frontier_laws.proofs.Rises.{rise-open}
use Rattle.list_lemmas.proofs.Times.{member_of_times, times_in-append, times_none, times_of_member}
use Rattle.std.proofs.lemmas.Bool.Decides.{nat_tests}
use Rattle.frontier_laws.proofs.OrdersPlaces.{IsPartOrder-more, below_left, left_below, left_more, order_length}
use Rattle.graph_parts.proofs.Distinct.{is_member-append}
use Rattle.arc_gluing.proofs.EachState.{times_in-more}
use Rattle.frontier_laws.proofs.OrdersTaken.{taken_more, AreNodes-taken, AreFew-order}
use Rattle.frontier_laws.proofs.TurnSteps.{turns_after, within_after, wide_after, full_after}
use Rattle.frontier_sweep.specs.Frontiers.{Frontier, IsFrontier, IsLimitAfter}
use Rattle.frontier_sweep.specs.NotGluedNodes.{Explains}
use Rattle.frontier_sweep.specs.Rises.{Rises, IsRises, IsAfter}
use Rattle.frontier_sweep.specs.Steps.{IsReady, IsSeamOf, OverflowsAt}
use Rattle.frontier_sweep.specs.declared.fault.NotGlued.{NotGlued}
use Rattle.frontier_sweep.specs.declared.fault.NotGlued.TheVariants.{Wide, Full, Memory}
use Rattle.list_lemmas.specs.Times.{times_in}

-- The node at a place that is left is taken.
pub record IsTaking (m : ℕ) (network : Network) (frontier : Frontier) (place : ℕ) (node : Node) : Type 0 where
  pub small : IsSmallNetwork network
  pub weights : WeightsBelow m network.nodes
  pub some : 0 < m
  pub left : is_member ◌==◌ frontier.left place ≡ true
  pub node_is : node ≡ node_at network.nodes place

-- A place that is left is one of the network's.
pub place_in_network : (m delta : ℕ) (network : Network) (order : List ℕ) (frontier : Frontier) (count : ℕ) → IsFrontier m delta network order frontier count →
    (place : ℕ) → is_member ◌==◌ frontier.left place ≡ true → place < length network.nodes
place_in_network m delta network order frontier count h place left = (left_below (length network.nodes) order place (subst (λ left. is_member ◌==◌ left place ≡ true) h.left_are left)).0

-- The node that is read at a place is the network's there.
node_read : (network : Network) (nodes : List Node) (place : ℕ) (node : Node) → nodes ≡ network.nodes → place < length network.nodes → node ≡ get_or nodes place node → node ≡ node_at network.nodes place
node_read network nodes place node same below read =
    read ∙ ap (λ nodes. get_or nodes place node) same ∙ get_or_default network.nodes place node record { group = 0; ends = []; terms = [] } below

-- So it is taken.
pub taking : (m delta : ℕ) (network : Network) (order : List ℕ) (frontier : Frontier) (count : ℕ) → IsFrontier m delta network order frontier count →
    IsSmallNetwork network → WeightsBelow m network.nodes → 0 < m → (place : ℕ) → is_member ◌==◌ frontier.left place ≡ true →
    (nodes : List Node) (node : Node) → nodes ≡ network.nodes → node ≡ get_or nodes place node → IsTaking m network frontier place node
taking m delta network order frontier count h small weights some place left nodes node same read = record {
  small = small;
  weights = weights;
  some = some;
  left = left;
  node_is = node_read network nodes place node same (place_in_network m delta network order frontier count h place left) read;
}

-- A product of two numbers within their bounds.
product_bound : (a b c d : ℕ) → a ≤ c → b ≤ d → a * b ≤ c * d
product_bound a b c d small few = mul-le-mul small few

module _ (m delta : ℕ) (network : Network) (order : List ℕ) (frontier : Frontier) (count : ℕ) (h : IsFrontier m delta network order frontier count)
    (place : ℕ) (node : Node) (t : IsTaking m network frontier place node) where
  before : List Node
  before = taken network.nodes order

  in_left : is_member ◌==◌ (left_after (length network.nodes) order) place ≡ true
  in_left = subst (λ left. is_member ◌==◌ left place ≡ true) h.left_are t.left

  pub place_below : place < length network.nodes
  place_below = (left_below (length network.nodes) order place in_left).0

  part_more : IsPartOrder (length network.nodes) (order ++ place ∷ [])
  part_more = IsPartOrder-more (length network.nodes) order place h.part in_left

  more : taken network.nodes (order ++ place ∷ []) ≡ taken network.nodes order ++ node ∷ []
  more = taken_more network.nodes order place ∙ ap (λ (node : Node). taken network.nodes order ++ node ∷ []) (sym t.node_is)

  node_ok : IsNode node
  node_ok = subst IsNode (sym t.node_is) (All-get_or IsNode network.nodes place record { group = 0; ends = []; terms = [] } place_below t.small.twice.nodes)

  ok : All IsNode (taken network.nodes order)
  ok = AreNodes-taken network order t.small.twice h.part

  few_before : AreFew (taken network.nodes order)
  few_before = AreFew-order network order t.small.twice h.part

  few : AreFew (taken network.nodes order ++ node ∷ [])
  few = subst AreFew more (AreFew-order network (order ++ place ∷ []) t.small.twice part_more)

  within_before : IsWithinAt (taken network.nodes order) (length (taken network.nodes order))
  within_before = h.within (length (taken network.nodes order)) (omega arith)

  narrow : open_count (taken network.nodes order) ≤ 24
  narrow = subst (λ nodes. open_count nodes ≤ 24) (take_all (length (taken network.nodes order)) (taken network.nodes order) (omega arith)) within_before.narrow

  narrow_places : length frontier.places ≤ 24
  narrow_places = let c = count_open (taken network.nodes order) frontier.places h.places_open in let n = narrow in omega (arith, c, n)

  table_long : length frontier.table ≡ pairing_count (taken network.nodes order)
  table_long = counted m delta (taken network.nodes order) frontier.places frontier.table ok few_before h.places_open narrow_places h.table_by

  few_pairings : length frontier.table ≤ 262144
  few_pairings =
      let w = subst (λ nodes. pairing_count nodes ≤ 262144) (take_all (length (taken network.nodes order)) (taken network.nodes order) (omega arith)) within_before.few in
      let e = table_long in
      omega (arith, w, e)

  -- THE NODE CAN BE GLUED
  pub ready : IsReady m frontier.places node frontier.table count
  ready = record {
    few_names = narrow_places;
    single = λ x. let o = h.places_open.once x in grind (arith, nat_tests, o);
    few = few_more (taken network.nodes order) node few frontier.places h.places_open;
    distinct = h.table_by.distinct;
    codes = spelled m delta (taken network.nodes order) frontier.places frontier.table ok few_before h.places_open narrow_places h.table_by;
    coefficients = λ i small. All-get_or (λ (entry : ℕ × ℕ). entry.1 < m) frontier.table i (0, 0) small h.below;
    weights = subst (λ (node : Node). All (λ term. term.weight < m) node.terms) (sym t.node_is) (All-get_or (λ (node : Node). All (λ term. term.weight < m) node.terms) network.nodes place record { group = 0; ends = []; terms = [] } place_below t.weights);
    some = t.some;
    few_pairings = few_pairings;
    room = (let f = h.few_turns in let l = order_length (length network.nodes) order h.part in let n = t.small.few_nodes in omega (arith, f, l, n));
  }

  -- ---- where it stops
  wide : (ends : ℕ) → 24 < open_name_count (frontier.places ++ node.ends) → ends ≡ open_name_count (frontier.places ++ node.ends) → IsWideAt (taken network.nodes (order ++ place ∷ [])) ends
  wide ends many is =
      let counted = count_more (taken network.nodes order) node few frontier.places h.places_open in
      subst (λ nodes. IsWideAt nodes ends) (sym more) (wide_after (taken network.nodes order) node ends h.within (sym counted ∙ sym is) (omega (arith, many, is)))

  -- What a seam leaves is open with the node.
  open_out : (seam : Seam) → IsSeamOf frontier.places node.ends seam → AreOpen (names_of (taken network.nodes order ++ node ∷ [])) seam.outer
  open_out seam is = open_more (taken network.nodes order) node few frontier.places h.places_open seam.outer is.outer

  narrow_after : (seam : Seam) → IsSeamOf frontier.places node.ends seam → open_count (taken network.nodes order ++ node ∷ []) ≤ 24
  narrow_after seam is = let c = count_open (taken network.nodes order ++ node ∷ []) seam.outer (open_out seam is) in let n = is.narrow in omega (arith, c, n)

  full : OverflowsAt m delta frontier.places node frontier.table → IsFullAt (taken network.nodes (order ++ place ∷ []))
  full over =
      let nodes = taken network.nodes order in
      let many = overflowing m delta nodes node frontier.places frontier.table ok node_ok few h.places_open narrow_places h.table_by over.seam over.is (open_out over.seam over.is) over.over in
      subst IsFullAt (sym more) (full_after nodes node h.within (narrow_after over.seam over.is) many)

  -- A REASON AGAINST THE NODE IS A LIMIT THAT ITS PLACE MEETS
  pub limit : (reason : NotGlued) → Explains m delta frontier.places node frontier.table reason → IsLimitAfter network (order ++ place ∷ []) reason
  limit (Wide ends) explains = wide ends explains.0 explains.1
  limit Full explains = full explains
  limit Memory explains = explains

  -- ---- what it leaves
  next_left : (at : ℕ) → at < length frontier.left → slice_index frontier.left at ≡ place → remove frontier.left at ≡ left_after (length network.nodes) (order ++ place ∷ [])
  next_left at in_range here =
      ap (λ (left : List ℕ). remove left at) h.left_are
      ∙ sym (left_more (length network.nodes) order place at (subst (λ (left : List ℕ). at < length left) h.left_are in_range) (ap (λ left. slice_index left at) (sym h.left_are) ∙ here))

  -- In their places and increasing the same names are open.
  as_placed : (name : ℕ) → times_in frontier.names name ≡ times_in frontier.places name
  as_placed name = ap (λ (names : List ℕ). times_in names name) h.names_are ∙ (AreOpen-open_names (taken network.nodes order)).once name ∙ sym (h.places_open.once name)

  -- A name that is no end of the node is open afterwards where it was before.
  beside : (names : List ℕ) → AreOpen (frontier.places ++ node.ends) names → (name : ℕ) → is_member ◌==◌ node.ends name ≡ false → is_member ◌==◌ names name ≡ is_member ◌==◌ frontier.names name
  beside names open_ name apart =
      let both = times_in-append frontier.places node.ends name in
      let none = times_none node.ends name apart in
      let outer = open_.once name in
      let same = as_placed name in
      let once = once_open (taken network.nodes order) frontier.names h.names_are name in
      let some = times_of_member name frontier.names in
      let only = member_of_times name frontier.names in
      let some_outer = times_of_member name names in
      let only_outer = member_of_times name names in
      grind (arith, nat_tests, both, none, outer, same, once, some, only, some_outer, only_outer)

  -- A place that is left afterwards is another one that was left before.
  kept : (other : ℕ) → is_member ◌==◌ (left_after (length network.nodes) (order ++ place ∷ [])) other ≡ true → (is_member ◌==◌ frontier.left other ≡ true) × (other ≢ place)
  kept other in_next =
      let left = left_below (length network.nodes) (order ++ place ∷ []) other in_next in
      let both = is_member-append order (place ∷ []) other in
      let absent = left.1 in (
        subst (λ left. is_member ◌==◌ left other ≡ true) (sym h.left_are) (below_left (length network.nodes) order other left.0 (grind (arith, nat_tests, both, absent))),
        grind (arith, nat_tests, both, absent),
      )

  -- An end that it has too is open afterwards.
  shared : (names : List ℕ) → AreOpen (frontier.places ++ node.ends) names → (other : ℕ) → is_member ◌==◌ (left_after (length network.nodes) (order ++ place ∷ [])) other ≡ true → (name : ℕ) →
      is_member ◌==◌ (node_at network.nodes other).ends name ≡ true → is_member ◌==◌ node.ends name ≡ true → is_member ◌==◌ names name ≡ true
  shared names open_ other in_next name in_other in_node =
      let part_two = IsPartOrder-more (length network.nodes) (order ++ place ∷ []) other part_more in_next in
      let two = AreFew-order network ((order ++ place ∷ []) ++ other ∷ []) t.small.twice part_two name in
      let a = ap (λ nodes. times_in (names_of nodes) name) (taken_more network.nodes (order ++ place ∷ []) other ∙ ap (λ nodes. nodes ++ node_at network.nodes other ∷ []) more) in
      let b = times_in-more (taken network.nodes order ++ node ∷ []) (node_at network.nodes other) name in
      let c = times_in-more (taken network.nodes order) node name in
      let d = times_of_member name (node_at network.nodes other).ends in_other in
      let e = times_of_member name node.ends in_node in
      let both = times_in-append frontier.places node.ends name in
      let before_open = h.places_open.once name in
      let outer = open_.once name in
      let only_outer = member_of_times name names in
      grind (arith, nat_tests, two, a, b, c, d, e, both, before_open, outer, only_outer)

  -- What is left and open afterwards.
  pub after_it : (names : List ℕ) → AreOpen (frontier.places ++ node.ends) names → (at : ℕ) → at < length frontier.left → slice_index frontier.left at ≡ place →
      IsAfter network.nodes place node.ends names frontier.names frontier.left (remove frontier.left at)
  after_it names open_ at in_range here =
      let next = next_left at in_range here in
      record {
        beside = beside names open_;
        kept = λ other in_next. kept other (subst (λ left. is_member ◌==◌ left other ≡ true) next in_next);
        shared = λ other in_next. shared names open_ other (subst (λ left. is_member ◌==◌ left other ≡ true) next in_next);
      }

  -- THE FRONTIER WITH ONE NODE MORE
  pub next_frontier : (seam : Seam) → IsSeamOf frontier.places node.ends seam → IsShortNode node → (at : ℕ) → at < length frontier.left → slice_index frontier.left at ≡ place →
      (left names places : List ℕ) → left ≡ remove frontier.left at → AreOpen (frontier.places ++ node.ends) names → IsStrictlyIncreasing names → places ≡ seam.outer → (rises : Rises) → IsRises network left names rises →
      (table : List (ℕ × ℕ)) → IsGathered m (contributions delta seam node.terms frontier.table) table → All (λ entry. entry.1 < m) table → length table ≤ 262144 → (after : ℕ) → after ≡ count + length frontier.table * length node.terms →
      IsFrontier m delta network (order ++ place ∷ []) record { left = left; names = names; places = places; table = table; rises = rises; groups = frontier.groups } after
  next_frontier seam is short at in_range here left names places left_is names_open ascending places_are rises rises_are table gathered below few_after after after_is =
      let nodes = taken network.nodes order in
      let placed : AreOpen (names_of (nodes ++ node ∷ [])) places = subst (AreOpen (names_of (nodes ++ node ∷ []))) (sym places_are) (open_out seam is) in
      let table_by : IsTableBy m delta (nodes ++ node ∷ []) places table =
      subst (λ places. IsTableBy m delta (nodes ++ node ∷ []) places table) (sym places_are)
      (gathered_by m delta nodes node frontier.places frontier.table ok node_ok few h.places_open narrow_places h.table_by seam is (open_out seam is) table gathered) in
      let long = gathered_count m delta nodes node frontier.places frontier.table ok node_ok few h.places_open narrow_places h.table_by seam is (open_out seam is) table gathered in
      let same : turns network (order ++ place ∷ []) ≡ turns_of nodes + pairing_count nodes * length node.terms = ap turns_of more ∙ turns_after nodes node in
      record {
        part = part_more;
        within = subst IsWithin (sym more) (within_after nodes node h.within (narrow_after seam is) (omega (arith, long, few_after)));
        left_are = left_is ∙ next_left at in_range here;
        names_are = open_names-only (nodes ++ node ∷ []) names (open_more nodes node few frontier.places h.places_open names names_open) ascending ∙ ap open_names (sym more);
        places_open = subst (λ nodes. AreOpen (names_of nodes) places) (sym more) placed;
        rises_are = rises_are;
        groups_are = h.groups_are;
        table_by = subst (λ nodes. IsTableBy m delta nodes places table) (sym more) table_by;
        below = below;
        count_is = after_is ∙ ap (λ n. n + length frontier.table * length node.terms) h.count_is ∙ ap (λ n. turns network order + n * length node.terms) table_long ∙ sym same;
        few_turns =
            (let b = product_bound (length frontier.table) (length node.terms) 262144 1048576 few_pairings short.few_terms in
            let f = h.few_turns in
            let l = ap (λ nodes. length nodes) more in
            let long_order : length (order ++ place ∷ []) ≡ length order + 1 = length-append order (place ∷ []) in
            omega (arith, b, f, after_is, long_order));
      }

  -- ---- before it is taken
  -- THE RISE THAT IS KEPT FOR IT tells how many names are open then
  pub risen : slice_index frontier.rises.each place + length frontier.names ≡ open_name_count (frontier.names ++ node.ends) + 24
  risen =
      let kept : slice_index frontier.rises.each place ≡ rise frontier.names node.ends = h.rises_are.are.right place place_below t.left ∙ ap (λ (node : Node). rise frontier.names node.ends) (sym t.node_is) in
      ap (λ n. n + length frontier.names) kept
      ∙ subst (λ (names : List ℕ). rise names node.ends + length names ≡ open_name_count (names ++ node.ends) + 24) (sym h.names_are) (rise-open (taken network.nodes order) node few narrow)
