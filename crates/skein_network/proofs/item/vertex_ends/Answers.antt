use Rattle.std.proofs.Common.{ℕ, List, ◌∷◌, get_or, reverse, ap, ◌∙◌}
use Rattle.cables.specs.Strands.{names_at}
use Rattle.skein_network.specs.Edges.{strands_at}
use Rattle.skein_network.proofs.ItemNodes.{at_vertex}
use Rattle.skein_network.proofs.item.vertex_ends.Goals as goal

pub returns-clause-names : goal.returns-clause-names
returns-clause-names c = λ p.
    let strands = strands_at p c.args.edges.now in
    let slots = c.args.slots.now in
    let one = c.in_ok-x.ensures.seen in
    let two = c.in_ok-y.ensures.seen ∙ ap (λ (s : List ℕ). get_or slots 1 0 ∷ s) one in
    at_vertex strands (reverse c.args.seen.now.items) slots _ c.told-slots record {
      first = c.in_ok-x.ensures.names p;
      second = c.in_ok-y.ensures.names p ∙ ap (λ s. names_at strands s (get_or slots 1 0)) one;
      third = c.in_ok-z.ensures.names p ∙ ap (λ s. names_at strands s (get_or slots 2 0)) two;
    }
