use Rattle.std.proofs.Common.{length, ap, arith}
use Rattle.planar_check.proofs.FewComponents.{few_components}
use Rattle.planar_check.proofs.planar.Planar.components.Goals as goal

pub returns-clause-few : goal.returns-clause-few
returns-clause-few c =
    let kept = c.self.invariant in
    omega (arith, c.len.ensures, c.self.inside.components.least_labels.ok.0, ap length kept.3.all_are, few_components c.self.inside.diagram kept.0)
