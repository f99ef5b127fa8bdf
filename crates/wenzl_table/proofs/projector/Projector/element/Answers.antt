use Rattle.std.proofs.Common.{subst}
use Rattle.temperley_lieb.specs.Elements.{AreBelow}
use Rattle.wenzl_table.specs.Projectors.{Projector}
use Rattle.wenzl_table.proofs.Steps.{projector_below}
use Rattle.wenzl_table.proofs.projector.Projector.element.Goals as goal

pub returns-clause-below : goal.returns-clause-below
returns-clause-below c =
    let P : Projector → Type 0 = λ f. AreBelow f.params.modulus f.element in
    subst P c.self.view_is (projector_below c.self.inside.params c.self.inside.colour c.self.inside.element c.self.invariant.1)
