-- A contraction of a network within its limits takes at most 2^54 turns: before each of 65,536 nodes at most 262,144 pairings, each
-- glued to at most 1,048,576 terms.
use Rattle.std.proofs.Common.{◌≡◌, ℕ, zero, suc, ◌+◌, ◌*◌, ◌^◌, ◌<◌, ◌≤◌, List, [], length, take, arith, inl, inr, sym, ap, subst}
use Rattle.std.specs.List.{All, sum_by, range_with_len}
use Rattle.std.proofs.Math.Nat.{mul-le-mul, suc-mul, zero-mul}
use Rattle.std.proofs.lemmas.Bool.{cases_lt}
use Rattle.std.proofs.lemmas.List.{get_or-map, get_or_past, length-map}
use Rattle.std.proofs.lemmas.List.Elements.{All-get_or}
use Rattle.std.proofs.lemmas.List.Sums.{sum_by-cons}
use Rattle.state_sums.specs.Networks.{Node, Network}
use Rattle.arc_pairing.specs.Nodes.{IsShortNode}
use Rattle.frontier_laws.specs.Orders.{View, node_at, taken}
use Rattle.frontier_laws.specs.Turns.{pairing_count}
use Rattle.frontier_laws.proofs.OrdersPlaces.{order_length}
use Rattle.frontier_sweep.specs.Sweeps.{IsSwept}

few_terms : (nodes : List Node) → All IsShortNode nodes → (place : ℕ) → length (node_at nodes place).terms ≤ 1048576
few_terms nodes all place =
    elim (cases_lt place (length nodes)) [
      | inl low ↦ (All-get_or IsShortNode nodes place record { group = 0; ends = []; terms = [] } low all).few_terms
      | inr high ↦ let none = ap (λ (node : Node). length node.terms) (get_or_past nodes place record { group = 0; ends = []; terms = [] } high) in omega (arith, none)
    ]

sum_few : (f : ℕ → ℕ) (most a n : ℕ) → ((k : ℕ) → a ≤ k → k < a + n → f k ≤ most) → sum_by f (range_with_len a n) ≤ n * most
sum_few f most a zero each = let none = zero-mul most in omega (arith, none)
sum_few f most a (suc n) each =
    let here = each a (omega arith) (omega arith) in
    let rest = sum_few f most (a + 1) n (λ k low high. each k (omega (arith, low)) (omega (arith, high))) in
    let more = suc-mul n most in
    let both : sum_by f (range_with_len a (suc n)) ≡ f a + sum_by f (range_with_len (a + 1) n) = sum_by-cons f a (range_with_len (a + 1) n) in
    omega (arith, here, rest, more, both)

-- THE TURNS ARE FEW
pub swept_few : (answers : View → ℕ → Type 0) (network : Network) (before after : ℕ) → length network.nodes ≤ 65536 → All IsShortNode network.nodes →
    IsSwept answers network before after → after ≤ before + 2 ^ 54
swept_few answers network before after few short h =
    let nodes = taken network.nodes h.order in
    let long : length nodes ≡ length h.order = length-map h.order (node_at network.nodes) in
    let each : (k : ℕ) → 0 ≤ k → k < 0 + length nodes → pairing_count (take k nodes) * length (node_at nodes k).terms ≤ 262144 * 1048576 =
    (λ k low high.
    let within = (h.within k (omega (arith, high))).few in
    let node_is = get_or-map (node_at network.nodes) h.order k 0 record { group = 0; ends = []; terms = [] } (omega (arith, high, long)) in
    let terms : length (node_at nodes k).terms ≤ 1048576 = subst (λ (node : Node). length node.terms ≤ 1048576) (sym node_is) (few_terms network.nodes short _) in
    mul-le-mul within terms) in
    let sum = sum_few (λ k. pairing_count (take k nodes) * length (node_at nodes k).terms) (262144 * 1048576) 0 (length nodes) each in
    let order = order_length (length network.nodes) h.order h.part in
    let count = h.count in
    omega (arith, sum, order, count, long, few)
