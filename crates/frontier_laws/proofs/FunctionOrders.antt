-- Orders that a function of the view gives, and where they meet a limit. The places that such a function takes are the front of one
-- order of all nodes, so the first step that meets a limit, or that none does, is told by this order.
use Rattle.std.proofs.Common.{◌≡◌, ◌⊎◌, ◌||◌, ℕ, zero, suc, ◌+◌, ◌-◌, ◌<◌, ◌≤◌, ⊎_elim, Bool, true, false, List, [], ◌∷◌, length, take, Some, None, refl, sym, ap, subst, ◌∙◌, arith}
use Rattle.std.specs.Prelude.{find}
use Rattle.std.specs.List.{range_with_len}
use Rattle.std.proofs.lemmas.Bool.Decides.{nat_tests}
use Rattle.std.proofs.lemmas.List.{length-map, length-take-le, take-append-le, take_all, take-take, take-map}
use Rattle.state_sums.specs.Networks.{Node, Network}
use Rattle.frontier_laws.specs.FunctionOrders.{nodes_by, is_wide, is_full, first_limit}
use Rattle.frontier_laws.specs.Orders.{View, IsPartOrder, node_at, taken, order_by, view_after, IsChosen}
use Rattle.frontier_laws.specs.Turns.{IsWithin, IsWithinAt, IsWideAt, IsFullAt, open_count, pairing_count}
use Rattle.frontier_laws.specs.Views.{IsNext}
use Rattle.frontier_laws.proofs.ChosenOrders.{IsChosen-only, length-order_by, order_by_more}
use Rattle.frontier_laws.proofs.PartOrders.{IsView-front, some_left}

-- ---- the first number of a range that passes a test
module _ (test : ℕ → Bool) where
  none_passes : (a n : ℕ) → ((k : ℕ) → a ≤ k → k < a + n → test k ≡ false) → find test (range_with_len a n) ≡ None
  none_passes a zero fails = refl
  none_passes a (suc n) fails =
      let here = fails a (omega arith) (omega arith) in
      rw here (none_passes (a + 1) n (λ k l u. fails k (omega (arith, l)) (omega (arith, u))))

  first_passes : (a n k : ℕ) → a ≤ k → k < a + n → test k ≡ true → ((j : ℕ) → a ≤ j → j < k → test j ≡ false) → find test (range_with_len a n) ≡ Some k
  first_passes a zero k l u passes before = absurd (omega (arith, l, u))
  first_passes a (suc n) k l u passes before =
      ⊎_elim
      (λ (same : a ≡ k). let here : test a ≡ true = ap test same ∙ passes in rw here (ap Some same))
      (λ (more : a < k). let here = before a (omega arith) more in rw here (first_passes (a + 1) n k (omega (arith, more)) (omega (arith, u)) passes (λ j l u. before j (omega (arith, l)) u)))
      (let split : (a ≡ k) ⊎ (a < k) = grind (arith, l) in split)

-- ---- the tests of a step
abbrev stops : List Node → ℕ → Bool
stops nodes k = is_wide nodes k || is_full nodes k

within_goes_on : (nodes : List Node) (k : ℕ) → IsWithinAt nodes k → stops nodes k ≡ false
within_goes_on nodes k h =
    let wide : is_wide nodes k ≡ false = (let narrow = h.narrow in grind (arith, nat_tests, narrow)) in
    let full : is_full nodes k ≡ false = (let few = h.few in grind (arith, nat_tests, few)) in
    rw (wide, full) refl

-- ---- before the first step nothing is met
some_step : (nodes : List Node) (step ends : ℕ) → open_count (take step nodes) ≡ ends → 24 < ends → 1 ≤ step
some_step nodes zero ends count more = absurd (omega (arith, count, more))
some_step nodes (suc step) ends count more = omega arith

full_step : (nodes : List Node) (step : ℕ) → 262144 < pairing_count (take step nodes) → 1 ≤ step
full_step nodes zero many = absurd (omega (arith, many))
full_step nodes (suc step) many = omega arith

-- ---- the order of a function of the view
module _ (next : View → ℕ) (network : Network) where
  abbrev takes : View → ℕ → Type 0
  takes view place = place ≡ next view

  places : List ℕ
  places = order_by next network (length network.nodes)

  length-nodes : length (nodes_by next network) ≡ length network.nodes
  length-nodes = length-map (order_by next network (length network.nodes)) (node_at network.nodes) ∙ length-order_by next network (length network.nodes)

  -- The first places are the order of so many steps.
  front : (steps more : ℕ) → take steps (order_by next network (steps + more)) ≡ order_by next network steps
  front steps zero =
      let whole : steps + 0 ≡ steps = omega arith in
      let all = length-order_by next network steps in
      ap (λ n. take steps (order_by next network n)) whole ∙ take_all steps (order_by next network steps) (omega (arith, all))
  front steps (suc more) =
      let one : steps + suc more ≡ suc (steps + more) = omega arith in
      let before = length-order_by next network (steps + more) in
      let order = order_by next network (steps + more) in
      ap (λ n. take steps (order_by next network n)) one
      ∙ ap (take steps) (order_by_more next network (steps + more))
      ∙ take-append-le steps order (next (view_after network order) ∷ []) (omega (arith, before))
      ∙ front steps more

  front_nodes : (steps : ℕ) → steps ≤ length network.nodes → take steps (nodes_by next network) ≡ taken network.nodes (order_by next network steps)
  front_nodes steps l =
      take-map (node_at network.nodes) steps (order_by next network (length network.nodes))
      ∙ ap (taken network.nodes) (let all : length network.nodes ≡ steps + (length network.nodes - steps) = omega (arith, l) in ap (λ n. take steps (order_by next network n)) all ∙ front steps (length network.nodes - steps))

  -- An order of so many answers takes the first nodes.
  answered : (order : List ℕ) (steps : ℕ) → IsChosen takes network order → length order ≡ steps → steps ≤ length network.nodes → taken network.nodes order ≡ take steps (nodes_by next network)
  answered order steps chosen last l =
      ap (taken network.nodes) (IsChosen-only next network order chosen ∙ ap (order_by next network) last) ∙ sym (front_nodes steps l)

  all_answered : (order : List ℕ) → IsChosen takes network order → length order ≡ length network.nodes → taken network.nodes order ≡ nodes_by next network
  all_answered order chosen whole = ap (taken network.nodes) (IsChosen-only next network order chosen ∙ ap (order_by next network) whole)

  -- The steps before the last one meet none.
  before_goes_on : (steps : ℕ) → ((k : ℕ) → k < length (take steps (nodes_by next network)) → IsWithinAt (take steps (nodes_by next network)) k) →
      steps ≤ length network.nodes → (j : ℕ) → 1 ≤ j → j < steps → stops (nodes_by next network) j ≡ false
  before_goes_on steps first l j one u =
      let nodes = nodes_by next network in
      let long = length-nodes in
      let short = length-take-le steps nodes (omega (arith, l, long)) in
      let h = first j (omega (arith, u, short)) in
      let front = take-take j steps nodes (omega (arith, u)) in
      within_goes_on nodes j record { narrow = subst (λ xs. open_count xs ≤ 24) front h.narrow; few = subst (λ xs. pairing_count xs ≤ 262144) front h.few }

  stopped : (steps : ℕ) → 1 ≤ steps → steps ≤ length network.nodes → stops (nodes_by next network) steps ≡ true → ((j : ℕ) → 1 ≤ j → j < steps → stops (nodes_by next network) j ≡ false) →
      first_limit (nodes_by next network) ≡ Some steps
  stopped steps one l passes before =
      let long = length-nodes in
      first_passes (stops (nodes_by next network)) 1 (length (nodes_by next network)) steps one (omega (arith, l, long)) passes before

  -- An order of its answers is chosen by the function.
  module _ (answers : View → ℕ → Type 0) (is_next : IsNext next answers) (order : List ℕ) (part : IsPartOrder (length network.nodes) order) (chosen : IsChosen answers network order) where
    IsChosen-next : IsChosen takes network order
    IsChosen-next k l = is_next (view_after network (take k order)) _ (IsView-front network order part k) (some_left network order part k l) (chosen k l)

    -- WHERE NO STEP MEETS A LIMIT: the nodes are those of the order, and none is met
    pub all_within : length order ≡ length network.nodes → IsWithin (taken network.nodes order) → (taken network.nodes order ≡ nodes_by next network) × (first_limit (nodes_by next network) ≡ None)
    all_within whole within =
        let nodes = nodes_by next network in
        let same = all_answered order IsChosen-next whole in
        let each = subst IsWithin same within in
        (same, none_passes (stops nodes) 1 (length nodes) (λ k l u. within_goes_on nodes k (each k (omega (arith, u)))))

    -- WHERE A STEP LEAVES TOO MANY OPEN NAMES
    pub wide_first : (step ends : ℕ) → length order ≡ step → length order ≤ length network.nodes → IsWideAt (taken network.nodes order) ends →
        (first_limit (nodes_by next network) ≡ Some step) × (is_wide (nodes_by next network) step ≡ true) × (open_count (take step (nodes_by next network)) ≡ ends)
    wide_first step ends last steps at =
        let nodes = nodes_by next network in
        let few : step ≤ length network.nodes = omega (arith, last, steps) in
        let same : taken network.nodes order ≡ take step nodes = answered order step IsChosen-next last few in
        let limit : IsWideAt (take step nodes) ends = subst (λ xs. IsWideAt xs ends) same at in
        let count = limit.count in
        let more = limit.wide in
        let wide : is_wide nodes step ≡ true = grind (arith, nat_tests, count, more) in
        (stopped step (some_step nodes step ends count more) few (rw wide refl) (before_goes_on step limit.first few), wide, count)

    -- WHERE A STEP LEAVES TOO MANY PAIRINGS
    pub full_first : (step : ℕ) → length order ≡ step → length order ≤ length network.nodes → IsFullAt (taken network.nodes order) →
        (first_limit (nodes_by next network) ≡ Some step) × (is_wide (nodes_by next network) step ≡ false)
    full_first step last steps at =
        let nodes = nodes_by next network in
        let few : step ≤ length network.nodes = omega (arith, last, steps) in
        let same : taken network.nodes order ≡ take step nodes = answered order step IsChosen-next last few in
        let limit : IsFullAt (take step nodes) = subst IsFullAt same at in
        let narrow = limit.narrow in
        let many = limit.full in
        let wide : is_wide nodes step ≡ false = grind (arith, nat_tests, narrow) in
        let full : is_full nodes step ≡ true = grind (arith, nat_tests, many) in
        (stopped step (full_step nodes step many) few (rw (wide, full) refl) (before_goes_on step limit.first few), wide)
