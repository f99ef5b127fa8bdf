use Rattle.std.proofs.Common.{◌≡◌, ◌<◌, ◌+◌, ℕ, List, [], ◌∷◌, ◌++◌, length, map, take, get_or, sym, ap, subst, ◌∙◌}
use Rattle.std.proofs.lemmas.List.{map-append, take_more}
use Rattle.state_sums.specs.Networks.{Node}
use Rattle.frontier_laws.specs.Rises.{rise}
use Rattle.frontier_sweep.proofs.rises.first_rises.Goals as goal

pub loop-node-preserved : goal.loop-node-preserved
loop-node-preserved c =
    let nodes = c.args.network.now.nodes in
    let at = c.loop-node.node-index in
    let node = c.node-item.result in
    let of : Node → ℕ = λ (node : Node). rise [] node.ends in
    let small = subst (λ (nodes : List Node). at < length nodes) c.nodes-node-items.ensures.value c.loop-node-test.true in
    let read : node ≡ get_or nodes at node = c.node-item.is ∙ ap (λ (nodes : List Node). get_or nodes at node) c.nodes-node-items.ensures.value in
    let more : map of (take (at + 1) nodes) ≡ map of (take at nodes) ++ of node ∷ [] =
    ap (map of) (take_more nodes at node small) ∙ map-append of (take at nodes) (get_or nodes at node ∷ []) ∙ ap (λ (node : Node). map of (take at nodes) ++ of node ∷ []) (sym read) in
    c.in_ok-push.ensures.items
    ∙ ap (λ (each : List ℕ). each ++ c.rise.result ∷ []) c.loop-node.invariant
    ∙ ap (λ value. map of (take at nodes) ++ value ∷ []) (c.rise.ensures ∙ ap (rise []) c.ends.ensures.value)
    ∙ sym more
