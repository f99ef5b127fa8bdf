use Rattle.std.proofs.Common.{All, subst}
use Rattle.strand_algebra.specs.Laws.{IsNoncrossingOn}
use Rattle.temperley_lieb.specs.Elements.{Element}
use Rattle.temperley_lieb.proofs.PairingPlaces.{terms_noncrossing}
use Rattle.temperley_lieb.proofs.element.Element.terms.Goals as goal

pub returns-clause-noncrossing : goal.returns-clause-noncrossing
returns-clause-noncrossing c =
    let P : Element → Type 0 = λ e. All (λ term. IsNoncrossingOn e.strands term.partner) e.terms in
    subst P c.self.view_is (terms_noncrossing c.self.inside.strands c.self.inside.terms.items c.self.invariant.partners)
