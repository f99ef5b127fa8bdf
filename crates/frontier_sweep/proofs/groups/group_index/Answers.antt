use Rattle.std.proofs.Common.{◌<◌, ◌≤◌, List, [], length, get_or, ap, subst, ◌∙◌, arith}
use Rattle.std.proofs.lemmas.List.{get_or_default}
use Rattle.std.proofs.lemmas.List.Sorted.{IsNonDecreasingBy-from_sort}
use Rattle.state_sums.specs.Networks.{Node}
use Rattle.frontier_sweep.proofs.GroupLemmas.{groups_more, groups_sorted}
use Rattle.frontier_sweep.specs.Rises.{place_key}
use Rattle.frontier_sweep.proofs.groups.group_index.Goals as goal

pub loop-place-preserved : goal.loop-place-preserved
loop-place-preserved c =
    let nodes = c.args.network.now.nodes in
    let place = c.loop-place.place in
    let small = subst (λ (nodes : List Node). place < length nodes) c.nodes-node-items.ensures.value c.loop-place-test.true in
    let few = c.nodes-node-items.ensures.network.few_nodes in
    let node =
    c.node-item.is
    ∙ ap (λ (nodes : List Node). get_or nodes place c.node-item.result) c.nodes-node-items.ensures.value
    ∙ get_or_default nodes place c.node-item.result record { group = 0; ends = []; terms = [] } small in
    groups_more nodes place c.loop-place.index.items c.loop-place.invariant (omega (arith, small, few)) c.place_key.result
    (c.place_key.ensures ∙ ap (λ group. place_key group place) (c.group.ensures ∙ ap (λ (node : Node). node.group) node)) _ c.in_ok-push.ensures.items

pub returns : goal.returns
returns c =
    let nodes = c.args.network.now.nodes in
    let all = subst (λ (nodes : List Node). length nodes ≤ c.loop-place.place) c.nodes-node-items.ensures.value c.loop-place-test.false in
    groups_sorted nodes c.loop-place.place c.loop-place.index.items c.sort_unstable.new.self.items c.loop-place.invariant all c.nodes-node-items.ensures.network.few_nodes c.sort_unstable.ensures.permutation
    (IsNonDecreasingBy-from_sort (λ key. key) c.sort_unstable.new.self.items c.sort_unstable.ensures.sorted)
