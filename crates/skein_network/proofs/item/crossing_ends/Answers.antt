use Rattle.std.proofs.Common.{ℕ, List, ◌∷◌, get_or, reverse, ap, ◌∙◌}
use Rattle.cables.specs.Strands.{names_at}
use Rattle.skein_network.specs.Edges.{strands_at}
use Rattle.skein_network.proofs.ItemNodes.{at_crossing, four_more}
use Rattle.skein_network.proofs.item.crossing_ends.Goals as goal

pub returns-clause-names : goal.returns-clause-names
returns-clause-names c = λ p.
    let strands = strands_at p c.args.edges.now in
    let slots = c.args.slots.now in
    let one = c.in_ok-a.ensures.seen in
    let two = c.in_ok-b.ensures.seen ∙ ap (λ (s : List ℕ). get_or slots 1 0 ∷ s) one in
    let three = c.in_ok-c.ensures.seen ∙ ap (λ (s : List ℕ). get_or slots 2 0 ∷ s) two in
    at_crossing strands (reverse c.args.seen.now.items) slots _ c.told-slots record {
      first = c.in_ok-a.ensures.names p;
      second = c.in_ok-b.ensures.names p ∙ ap (λ s. names_at strands s (get_or slots 1 0)) one;
      third = c.in_ok-c.ensures.names p ∙ ap (λ s. names_at strands s (get_or slots 2 0)) two;
      fourth = c.in_ok-d.ensures.names p ∙ ap (λ s. names_at strands s (get_or slots 3 0)) three;
    }

pub returns-clause-items : goal.returns-clause-items
returns-clause-items c = four_more c.args.seen.now.items _ _ _ _ c.args.slots.now c.told-slots c.in_ok-a.ensures.items c.in_ok-b.ensures.items c.in_ok-c.ensures.items c.in_ok-d.ensures.items
