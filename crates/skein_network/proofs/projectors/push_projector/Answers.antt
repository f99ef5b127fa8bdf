use Rattle.skein_network.proofs.LentTerms.{finds_for}
use Rattle.skein_network.proofs.projectors.push_projector.Goals as goal

pub returns-clause-found : goal.returns-clause-found
returns-clause-found c =
    (c.in_ok-found.found, finds_for c.in_ok-found.found c.args.table.now.params c.args.n c.projector.new.notes c.in_ok-found.ensures.found, c.in_ok-push.ensures.items)
