use Rattle.std.proofs.Common.{◌≡◌, ◌++◌, ◌+◌, List, ℕ, reverse, sym, ap, ◌∙◌, arith}
use Rattle.pd_reader.specs.declared.item.NetItem.{NetItem}
use Rattle.state_sums.specs.Networks.{Node}
use Rattle.cables.specs.Cables.{item_nodes}
use Rattle.skein_network.specs.Edges.{colour_at}
use Rattle.skein_network.specs.Colourings.{strands_in}
use Rattle.skein_network.specs.Progress.{standing_of, loops_of_item}
use Rattle.skein_network.proofs.ItemSteps.{crossing_anywhere, vertex_anywhere, one_loop, no_free_loop}
use Rattle.skein_network.proofs.progress.push_item.Goals as goal
use Rattle.skein_network.proofs.progress.push_item.Goals.{in-X+in_ok-push_crossing_item-in-X, in-Y+in_ok-push_vertex_item-in-Y, in-Loop+in_ok-push_loop_item-in-Loop+then-colour_of-eq1, in-Loop+in_ok-push_loop_item-in-Loop+else-colour_of-eq1}

pub returns-clause-nodes : goal.returns-clause-nodes
returns-clause-nodes c =
    let p = c.args.colouring.now.params.now in
    let strands = strands_in c.args.colouring.now in
    let at = c.args.progress.now in
    let old = at.nodes.items in
    let by : NetItem → List Node = λ item. old ++ item_nodes p strands (standing_of at) item in
    elim c.match-item.branch [
      | in-X+in_ok-push_crossing_item-in-X w ↦
          ap (λ q. q.nodes.items) w.progress-is ∙ w.in_ok-push_crossing_item-in-X.ensures.nodes
          ∙ ap (λ (ns : List Node). old ++ ns) (crossing_anywhere p strands (reverse at.seen.items) at.index at.group at.loop_group w.in-X.slots) ∙ ap by (sym w.in-X.is)
      | in-Y+in_ok-push_vertex_item-in-Y w ↦
          ap (λ q. q.nodes.items) w.progress-is ∙ w.in_ok-push_vertex_item-in-Y.ensures.nodes at.index
          ∙ ap (λ (ns : List Node). old ++ ns) (vertex_anywhere p strands (reverse at.seen.items) at.index at.group at.loop_group w.in-Y.edges) ∙ ap by (sym w.in-Y.is)
      | in-Loop+in_ok-push_loop_item-in-Loop+then-colour_of-eq1 w ↦ ap (λ q. q.nodes.items) w.progress-is ∙ w.in_ok-push_loop_item-in-Loop.ensures ∙ ap by (sym w.in-Loop.is)
      | in-Loop+in_ok-push_loop_item-in-Loop+else-colour_of-eq1 w ↦ ap (λ q. q.nodes.items) w.progress-is ∙ w.in_ok-push_loop_item-in-Loop.ensures ∙ ap by (sym w.in-Loop.is)
    ]

pub returns-clause-free : goal.returns-clause-free
returns-clause-free c =
    let edges = c.args.colouring.now.edges.items in
    let strands = strands_in c.args.colouring.now in
    let at = c.args.progress.now in
    let by : NetItem → ℕ = λ item. at.free + loops_of_item strands item in
    let same : at.free ≡ at.free + 0 = omega arith in
    elim c.match-item.branch [
      | in-X+in_ok-push_crossing_item-in-X w ↦ ap (λ q. q.free) w.progress-is ∙ same ∙ ap by (sym w.in-X.is)
      | in-Y+in_ok-push_vertex_item-in-Y w ↦ ap (λ q. q.free) w.progress-is ∙ same ∙ ap by (sym w.in-Y.is)
      | in-Loop+in_ok-push_loop_item-in-Loop+then-colour_of-eq1 w ↦
          ap (λ q. q.free) w.progress-is
          ∙ ap (λ (k : ℕ). at.free + k) (sym (one_loop (colour_at edges w.in-Loop.label) w.in-Loop.label (sym (w.colour_of.ensures ∙ ap (λ es. colour_at es w.in-Loop.label) w.deref.ensures.value) ∙ w.if-colour_of-eq1.true)))
          ∙ ap by (sym w.in-Loop.is)
      | in-Loop+in_ok-push_loop_item-in-Loop+else-colour_of-eq1 w ↦
          ap (λ q. q.free) w.progress-is ∙ same
          ∙ ap (λ (k : ℕ). at.free + k) (sym (no_free_loop (colour_at edges w.in-Loop.label) w.in-Loop.label (λ e. w.if-colour_of-eq1.false (w.colour_of.ensures ∙ ap (λ es. colour_at es w.in-Loop.label) w.deref.ensures.value ∙ e))))
          ∙ ap by (sym w.in-Loop.is)
    ]
