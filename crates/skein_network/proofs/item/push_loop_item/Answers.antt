use Rattle.std.proofs.Common.{◌++◌, ◌≤◌, ap, ◌∙◌, arith}
use Rattle.std.proofs.lemmas.Result.{on_ok_weaker}
use Rattle.skein_network.specs.Edges.{colour_at}
use Rattle.skein_network.proofs.ItemNodes.{loop_box}
use Rattle.skein_network.proofs.item.push_loop_item.Goals as goal

pub returns : goal.returns
returns c =
    let edges = c.args.colouring.now.edges.items in
    let n = colour_at edges c.args.label in
    let colour = c.colour_of.ensures ∙ ap (λ es. colour_at es c.args.label) c.deref.ensures.value in
    let some = c.if-colour_of-lt-LEAST_BOXED.false in
    let two : 2 ≤ n = omega (arith, colour, some) in
    on_ok_weaker c.push_strands_box.result
    (λ pushed. pushed ∙ ap (λ ns. c.args.nodes.now.items ++ ns) (loop_box c.args.group c.args.label c.args.colouring.now.params.now edges n two))
    c.push_strands_box.ensures
