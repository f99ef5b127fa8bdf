-- Orders where each view has one answer at the most, and what the greedy order looks at.
use Rattle.std.proofs.Common.{◌≡◌, ℕ, zero, suc, ◌+◌, ◌<◌, ◌≤◌, ⊎_elim, List, [], ◌∷◌, ◌++◌, take, take_all, length, slice_index, refl, sym, ap, subst, ◌∙◌, arith}
use Rattle.std.proofs.lemmas.List.{take-map, take_more}
use Rattle.state_sums.specs.Networks.{Node, Network, IsNetwork}
use Rattle.arc_gluing.specs.Laws.{AreFew}
use Rattle.frontier_laws.specs.Orders.{View, IsPartOrder, taken, node_at, open_with, view_after}
use Rattle.frontier_laws.specs.Turns.{IsWithinAt, IsWithin, IsLimited, open_count, pairing_count}
use Rattle.frontier_laws.specs.Laws.{IsFixed, IsAnswered, IsOneLimit}
use Rattle.frontier_laws.proofs.OpenNames.{open_count-after}
use Rattle.frontier_laws.proofs.PartOrders.{IsView-front, some_left}
use Rattle.frontier_laws.proofs.OrdersTaken.{taken_more, taken_length, AreFew-order}

-- ---- one order
module _ (answers : View → ℕ → Type 0) (network : Network) (order other : List ℕ) (fixed : IsFixed answers) (h : IsAnswered answers network order) (k : IsAnswered answers network other) where
  -- As far as both go they are one.
  pub same_front : (n : ℕ) → n ≤ length order → n ≤ length other → take n order ≡ take n other
  same_front zero l m = refl
  same_front (suc n) l m =
      let before = same_front n (omega (arith, l)) (omega (arith, m)) in
      let answer = subst (λ front. answers (view_after network front) (slice_index other n)) (sym before) (k.chosen n (omega (arith, m))) in
      let one =
      fixed (view_after network (take n order)) (slice_index order n) (slice_index other n) (IsView-front network order h.part n) (some_left network order h.part n (omega (arith, l)))
      (h.chosen n (omega (arith, l))) answer in
      let e : suc n ≡ n + 1 = omega arith in
      ap (λ n. take n order) e
      ∙ take_more order n 0 (omega (arith, l))
      ∙ ap (λ place. take n order ++ place ∷ []) one
      ∙ ap (λ front. front ++ slice_index other n ∷ []) before
      ∙ sym (take_more other n 0 (omega (arith, m)))
      ∙ ap (λ n. take n other) (sym e)

  pub fixed_order : length order ≡ length other → order ≡ other
  fixed_order long =
      sym (take_all (length order) order (omega arith)) ∙ same_front (length order) (omega arith) (omega (arith, long)) ∙ take_all (length order) other (omega (arith, long))

-- ---- one limit
-- No limit is met before the end.
before_end : (nodes : List Node) → IsLimited nodes → (k : ℕ) → k < length nodes → IsWithinAt nodes k
before_end nodes limited k small = ⊎_elim (λ wide. (wide.1).first k small) (λ full. full.first k small) limited

-- So nodes that begin others, and don't end with them, meet none.
front_narrow : (nodes : List Node) (n : ℕ) → n < length nodes → IsLimited nodes → IsLimited (take n nodes) → ⊥
front_narrow nodes n small limited front =
    let at = before_end nodes limited n small in
    ⊎_elim (λ wide. let w = (wide.1).wide in let c = (wide.1).count in let a = at.narrow in omega (arith, w, c, a)) (λ full. let f = full.full in let a = at.few in omega (arith, f, a)) front

taken_take : (nodes : List Node) (order : List ℕ) (n : ℕ) → taken nodes (take n order) ≡ take n (taken nodes order)
taken_take nodes order n = sym (take-map (node_at nodes) n order)

module _ (answers : View → ℕ → Type 0) (network : Network) (order other : List ℕ) (fixed : IsFixed answers) (h : IsAnswered answers network order) (k : IsAnswered answers network other) where
  -- An order that ends with a limit doesn't begin one that goes on to another.
  not_shorter : IsLimited (taken network.nodes order) → IsLimited (taken network.nodes other) → length other < length order → ⊥
  not_shorter limited limited_too small =
      let same = same_front answers network order other fixed h k (length other) (omega (arith, small)) (omega arith) ∙ take_all (length other) other (omega arith) in
      let front = subst (λ places. IsLimited (taken network.nodes places)) (sym same) limited_too in
      front_narrow (taken network.nodes order) (length other) (let l = taken_length network.nodes order in omega (arith, l, small)) limited
      (subst IsLimited (taken_take network.nodes order (length other)) front)

  -- Nor is an order without a limit as long as one that ends with it.
  not_as_long : IsLimited (taken network.nodes order) → IsWithin (taken network.nodes other) → length order ≤ length other → ⊥
  not_as_long limited within long =
      let same = sym (same_front answers network order other fixed h k (length order) (omega arith) (omega (arith, long))) ∙ take_all (length order) order (omega arith) in
      let front = sym (taken_take network.nodes other (length order)) ∙ ap (taken network.nodes) same in
      let at = within (length order) (let l = taken_length network.nodes other in omega (arith, l, long)) in
      let narrow = subst (λ nodes. open_count nodes ≤ 24) front at.narrow in
      let few = subst (λ nodes. pairing_count nodes ≤ 262144) front at.few in
      ⊎_elim (λ wide. let w = (wide.1).wide in let c = (wide.1).count in omega (arith, w, c, narrow)) (λ full. let f = full.full in omega (arith, f, few)) limited

  none_longer : IsLimited (taken network.nodes order) → IsWithin (taken network.nodes other) → length other < length order
  none_longer limited within = let long = not_as_long limited within in grind (arith, long)

-- ONE LIMIT AT THE MOST
pub one_limit : (answers : View → ℕ → Type 0) (network : Network) (order other : List ℕ) → IsFixed answers → IsAnswered answers network order → IsAnswered answers network other → IsOneLimit network order other
one_limit answers network order other fixed h k = record {
  same = λ limited limited_too.
      let a = not_shorter answers network order other fixed h k limited limited_too in
      let b = not_shorter answers network other order fixed k h limited_too limited in
      fixed_order answers network order other fixed h k (grind (arith, a, b));
  none = none_longer answers network order other fixed h k;
}

-- WHAT THE GREEDY ORDER LOOKS AT
pub open_with-after : (network : Network) (order : List ℕ) (place : ℕ) → IsNetwork network → IsPartOrder (length network.nodes) (order ++ place ∷ []) →
    open_with (view_after network order) place ≡ open_count (taken network.nodes (order ++ place ∷ []))
open_with-after network order place is part =
    let more = taken_more network.nodes order place in
    open_count-after (taken network.nodes order) (node_at network.nodes place) (subst AreFew more (AreFew-order network (order ++ place ∷ []) is part)) ∙ ap open_count (sym more)
