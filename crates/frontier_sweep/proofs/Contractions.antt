-- A contraction: what holds before each step, and at the end.
use Rattle.std.proofs.Common.{◌≡◌, ◌≢◌, ℕ, ◌+◌, ◌*◌, ◌^◌, ◌%◌, ◌<◌, ◌≤◌, ◌==◌, true, List, [], ◌∷◌, ◌++◌, length, refl, sym, ap, subst, ◌∙◌, arith}
use Rattle.std.specs.List.{All}
use Rattle.std.specs.Map.{lookup}
use Rattle.std.specs.Set.{is_member}
use Rattle.std.specs.Option.{unwrap_or}
use Rattle.std.proofs.lemmas.List.{length-append}
use Rattle.std.proofs.lemmas.List.Elements.{All-cons, All-nil}
use Rattle.state_sums.specs.Networks.{Network, WeightsBelow, names_of}
use Rattle.state_sums.specs.StateSums.{value}
use Rattle.arc_pairing.specs.Nodes.{IsSmallNetwork}
use Rattle.frontier_laws.specs.Orders.{View, node_at, view_after, taken, left_after, IsChosen, IsPartOrder}
use Rattle.frontier_laws.proofs.ChosenOrders.{IsChosen-more, IsChosen-none}
use Rattle.frontier_laws.proofs.OpenNames.{AreOpen-open_names}
use Rattle.frontier_laws.proofs.OrdersPlaces.{IsPartOrder-none, IsPartOrder-more, left_none, order_length}
use Rattle.frontier_laws.proofs.OrdersTaken.{AreNodes-taken, AreFew-order, whole_value, whole_closed, shown_in_view}
use Rattle.kept_tables.proofs.Ends.{end, of_none}
use Rattle.frontier_laws.proofs.TurnSteps.{within_none}
use Rattle.frontier_sweep.specs.Frontiers.{Frontier, IsFirst, IsFrontier, IsLimitAfter}
use Rattle.frontier_sweep.specs.Rises.{IsRises, HasRises}
use Rattle.frontier_sweep.proofs.FrontierLemmas.{risen}
use Rattle.kept_tables.specs.KeptTables.{IsTableBy}
use Rattle.std.proofs.lemmas.List.Sorted.{length_permutation}
use Rattle.arc_gluing.specs.Pairings.{AreOpen}
use Rattle.list_lemmas.specs.Times.{times_in}
use Rattle.list_lemmas.proofs.Permuted.{permuted_times}
use Rattle.frontier_sweep.specs.Sweeps.{IsStopped, stopped_at}
use Rattle.frontier_laws.specs.Views.{IsView}
use Rattle.frontier_sweep.specs.declared.fault.NotGlued.{NotGlued}
use Rattle.frontier_sweep.specs.declared.fault.NotGlued.TheVariants.{Wide, Full, Memory}

-- So many nodes were taken, each by an answer on the view of those before it.
pub record IsContractedTo (answers : View → ℕ → Type 0) (m delta : ℕ) (network : Network) (done : ℕ) (frontier : Frontier) (count : ℕ) : Type 0 where
  pub order : List ℕ
  pub chosen : IsChosen answers network order
  pub whole : length order ≡ done
  pub is : IsFrontier m delta network order frontier count

one_below : (m : ℕ) → 1 < m → All (λ (entry : ℕ × ℕ). entry.1 < m) ((0, 1) ∷ [])
one_below m some = All-cons (λ (entry : ℕ × ℕ). entry.1 < m) (0, 1) [] some (All-nil (λ (entry : ℕ × ℕ). entry.1 < m))

-- At first none is taken.
pub first : (answers : View → ℕ → Type 0) (m delta : ℕ) (network : Network) (frontier : Frontier) → 1 < m → IsFirst network frontier → IsContractedTo answers m delta network 0 frontier 0
first answers m delta network frontier some is = record {
  order = [];
  chosen = IsChosen-none answers network;
  whole = refl;
  is = record {
    part = IsPartOrder-none (length network.nodes);
    within = within_none;
    left_are = is.left_are ∙ sym (left_none (length network.nodes));
    names_are = is.names_are;
    rises_are = subst (λ names. IsRises network frontier.left names frontier.rises) (sym is.names_are) (is.rises_are frontier.left);
    groups_are = is.groups_are;
    places_open = subst (AreOpen []) (sym is.places_are) record { once = λ x. refl };
    table_by = subst (λ places. IsTableBy m delta [] places frontier.table) (sym is.places_are) (subst (IsTableBy m delta [] []) (sym is.table_is) (of_none m delta));
    below = subst (All (λ entry. entry.1 < m)) (sym is.table_is) (one_below m some);
    count_is = refl;
    few_turns = omega arith;
  };
}

module _ (answers : View → ℕ → Type 0) (m delta : ℕ) (network : Network) (done : ℕ) (frontier : Frontier) (count : ℕ) (h : IsContractedTo answers m delta network done frontier count) where
  -- The view of the frontier is that after the order.
  view_is : view_after network h.order ≡ record { network = network; left = frontier.left; names = frontier.names }
  view_is i = record { network = network; left = sym h.is.left_are i; names = sym h.is.names_are i }

  pub shown : IsView record { network = network; left = frontier.left; names = frontier.names }
  shown =
      let s = shown_in_view network h.order h.is.part in
      subst IsView view_is record { below = s.0; increasing = s.1; names_open = s.2 }

  -- What the view carries: the rises of the nodes left.
  pub shown_rises : IsSmallNetwork network → WeightsBelow m network.nodes → 0 < m → HasRises record { network = network; left = frontier.left; names = frontier.names } frontier.rises.each
  shown_rises small weights some = record {
    whole = h.is.rises_are.are.whole;
    each = λ place left. risen m delta network h.order frontier count h.is place (node_at network.nodes place) record { small = small; weights = weights; some = some; left = left; node_is = refl };
  }

  -- While not all are taken, some place is left.
  pub some_left : done < length network.nodes → frontier.left ≢ []
  some_left small none =
      let l = order_length (length network.nodes) h.order h.is.part in
      let e = ap (λ (left : List ℕ). length left) (sym h.is.left_are ∙ none) in
      let w = h.whole in
      omega (arith, l, e, w, small)

  -- One more answer.
  module _ (place : ℕ) (answer : answers record { network = network; left = frontier.left; names = frontier.names } place) (in_left : is_member ◌==◌ frontier.left place ≡ true) where
    part_more : IsPartOrder (length network.nodes) (h.order ++ place ∷ [])
    part_more = IsPartOrder-more (length network.nodes) h.order place h.is.part (subst (λ left. is_member ◌==◌ left place ≡ true) h.is.left_are in_left)

    chosen_more : IsChosen answers network (h.order ++ place ∷ [])
    chosen_more = IsChosen-more answers network h.order place h.chosen (subst (λ view. answers view place) (sym view_is) answer)

    whole_more : length (h.order ++ place ∷ []) ≡ done + 1
    whole_more = length-append h.order (place ∷ []) ∙ ap (λ n. n + 1) h.whole

    -- ONE MORE ANSWER
    pub one_more : (next : Frontier) (after : ℕ) → IsFrontier m delta network (h.order ++ place ∷ []) next after → IsContractedTo answers m delta network (done + 1) next after
    one_more next after is = record { order = h.order ++ place ∷ []; chosen = chosen_more; whole = whole_more; is = is }

    -- A limit at that answer stops the contraction.
    pub stopped : done < length network.nodes → (step : ℕ) → step ≡ done + 1 → (reason : NotGlued) → IsLimitAfter network (h.order ++ place ∷ []) reason → IsStopped answers network (stopped_at step reason)
    stopped small step is (Wide ends) limit = record { order = h.order ++ place ∷ []; part = part_more; chosen = chosen_more; last = whole_more ∙ sym is; steps = (let w = whole_more in omega (arith, w, small)); limit = limit }
    stopped small step is Full limit = record { order = h.order ++ place ∷ []; part = part_more; chosen = chosen_more; last = whole_more ∙ sym is; steps = (let w = whole_more in omega (arith, w, small)); limit = limit }
    stopped small step is Memory limit = limit

  -- At the end all are taken.
  module _ (all : length network.nodes ≤ done) (small : IsSmallNetwork network) where
    empty : (xs : List ℕ) → length xs ≡ 0 → xs ≡ []
    empty [] e = refl
    empty (x ∷ xs) e = absurd (omega (arith, e))

    -- In which no name stands, a list is empty.
    length-none : (xs : List ℕ) → ((x : ℕ) → times_in xs x ≡ times_in [] x) → length xs ≡ 0
    length-none xs none = sym (length_permutation xs [] (permuted_times [] xs none))

    none_left : left_after (length network.nodes) h.order ≡ []
    none_left = empty (left_after (length network.nodes) h.order) (let l = order_length (length network.nodes) h.order h.is.part in let w = h.whole in omega (arith, l, w, all))

    -- AT THE END THE TABLE HAS THE VALUE
    pub summed : unwrap_or (lookup (◌==◌ 0) frontier.table) 0 * delta ^ network.free_loops % m ≡ value m delta network
    summed =
        let nodes = taken network.nodes h.order in
        let none : AreOpen (names_of nodes) [] = subst (AreOpen (names_of nodes)) (whole_closed network h.order small.twice h.is.part none_left) (AreOpen-open_names nodes) in
        let places : frontier.places ≡ [] = empty frontier.places (length-none frontier.places (λ x. h.is.places_open.once x ∙ sym (none.once x))) in
        end m delta network.free_loops nodes frontier.table (AreNodes-taken network h.order small.twice h.is.part) (AreFew-order network h.order small.twice h.is.part) none
        (subst (λ places. IsTableBy m delta nodes places frontier.table) places h.is.table_by)
        ∙ whole_value network h.order small.twice h.is.part none_left m delta
