-- The first places of a part order: what is seen behind them is a view, and a node is left.
use Rattle.std.proofs.Common.{◌≢◌, ℕ, ◌<◌, ◌≤◌, List, [], length, take, ap, arith}
use Rattle.std.proofs.lemmas.List.{length-take-le}
use Rattle.std.proofs.lemmas.List.Elements.{All-take}
use Rattle.std.proofs.lemmas.List.Sums.{sum_by-take-le}
use Rattle.state_sums.specs.Networks.{Network}
use Rattle.frontier_laws.specs.Orders.{IsPartOrder, left_after, view_after}
use Rattle.frontier_laws.specs.Views.{IsView}
use Rattle.frontier_laws.proofs.OrdersPlaces.{order_length}
use Rattle.frontier_laws.proofs.OrdersTaken.{shown_in_view}
use Rattle.list_lemmas.specs.Times.{times_in}

-- The first places are a part order.
IsPartOrder-take : (count : ℕ) (order : List ℕ) → IsPartOrder count order → (k : ℕ) → IsPartOrder count (take k order)
IsPartOrder-take count order part k = record {
  below = All-take (λ place. place < count) k order part.below;
  once = λ place. (let few = part.once place in let fewer = times_take place order k in omega (arith, few, fewer));
}
  where
    times_take : (place : ℕ) (order : List ℕ) (k : ℕ) → times_in (take k order) place ≤ times_in order place
    times_take place order k = sum_by-take-le _ order k

-- Behind a part order what a chooser sees is a view.
pub IsView-after : (network : Network) (order : List ℕ) → IsPartOrder (length network.nodes) order → IsView (view_after network order)
IsView-after network order part =
    let shown = shown_in_view network order part in
    record { below = shown.0; increasing = shown.1; names_open = shown.2 }

-- SO IT IS BEHIND THE FIRST PLACES
pub IsView-front : (network : Network) (order : List ℕ) → IsPartOrder (length network.nodes) order → (k : ℕ) → IsView (view_after network (take k order))
IsView-front network order part k = IsView-after network (take k order) (IsPartOrder-take (length network.nodes) order part k)

-- WHERE A PLACE FOLLOWS THEM, ONE IS LEFT
pub some_left : (network : Network) (order : List ℕ) → IsPartOrder (length network.nodes) order → (k : ℕ) → k < length order → left_after (length network.nodes) (take k order) ≢ []
some_left network order part k small none =
    let all = order_length (length network.nodes) order part in
    let front = order_length (length network.nodes) (take k order) (IsPartOrder-take (length network.nodes) order part k) in
    let short = length-take-le k order (omega (arith, small)) in
    let empty = ap (λ (places : List ℕ). length places) none in
    omega (arith, all, front, short, empty, small)
