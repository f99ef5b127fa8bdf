-- No definition, but a proof: an order names a node that is left. It stands here, since the ghost member `names_left` of
-- `Order` cites it.
use Rattle.std.proofs.Common.{◌≡◌, ◌≢◌, ◌==◌, true, ℕ, List, [], ◌∷◌, refl, ap, ◌∙◌, slice_index, arith}
use Rattle.std.specs.Set.{is_member}
use Rattle.graph_parts.proofs.Ends.{is_member-get_or}
use Rattle.frontier_laws.specs.Orders.{View, node_at, open_with, rank_in}
use Rattle.frontier_laws.proofs.FirstLeast.{first_least-among}
use Rattle.frontier_sweep.specs.Next.{next_of}
use Rattle.frontier_sweep.specs.declared.order.Order.{Order}
use Rattle.frontier_sweep.specs.declared.order.Order.TheVariants.{Listed, Greedy, Given}

first-among : (places : List ℕ) → places ≢ [] → is_member ◌==◌ places (slice_index places 0) ≡ true
first-among [] some = absurd (some refl)
first-among (place ∷ places) some = is_member-get_or (place ∷ places) 0 (omega arith)

next-left : (order : Order) (view : View) → view.left ≢ [] → is_member ◌==◌ view.left (next_of order view) ≡ true
next-left Listed view some = first-among view.left some
next-left Greedy view some = first_least-among (open_with view) view.left some
next-left (Given groups) view some = first_least-among (λ place. rank_in groups.items (node_at view.network.nodes place).group) view.left some

-- An answer of an order is a node that is left.
pub next_of-left : (order : Order) (view : View) (node : ℕ) → view.left ≢ [] → node ≡ next_of order view → is_member ◌==◌ view.left node ≡ true
next_of-left order view node some answer = ap (is_member ◌==◌ view.left) answer ∙ next-left order view some
