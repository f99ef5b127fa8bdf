use Rattle.std.proofs.Common.{reverse, ap, ◌∙◌}
use Rattle.cables.specs.Strands.{names_at}
use Rattle.skein_network.specs.Edges.{strands_at}
use Rattle.skein_network.proofs.item.next_names.Goals as goal

pub returns-clause-names : goal.returns-clause-names
returns-clause-names c = λ p. c.in_ok-names.ensures p ∙ ap (λ seen. names_at (strands_at p c.args.edges.now) (reverse seen) c.args.label) c.deref.ensures.value
