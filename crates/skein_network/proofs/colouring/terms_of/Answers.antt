use Rattle.std.proofs.Common.{ap, sym, ◌∙◌, arith}
use Rattle.skein_network.specs.Colourings.{projector_in}
use Rattle.skein_network.proofs.LentTerms.{lent_terms, few_terms}
use Rattle.skein_network.proofs.colouring.terms_of.Goals as goal

pub returns-then-colour-n-clause-value : goal.returns-then-colour-n-clause-value
returns-then-colour-n-clause-value c =
    let f = c.projector_in-projector.result.now in
    let i = c.loop-found.found-index in
    let same = ap (λ g. g.params) c.projector_in-projector.ensures ∙ ap (λ found. (projector_in found).params) c.found-item.is ∙ c.requires.same i c.found-item.result (omega arith) in
    c.terms.ensures.value ∙ ap (λ e. e.terms) c.element.ensures.value
    ∙ lent_terms c.args.params.now f c.args.n same (sym c.colour.ensures.value ∙ c.if-colour-n.true) c.element.ensures.projector

pub returns-then-colour-n-clause-few : goal.returns-then-colour-n-clause-few
returns-then-colour-n-clause-few c = few_terms c.element.result.now c.terms.result.now c.terms.ensures.whole c.terms.ensures.value
