use Rattle.std.proofs.Common.{length, ap, arith}
use Rattle.planar_check.proofs.Crossings.{few_places}
use Rattle.planar_check.proofs.planar.Planar.places.Goals as goal

pub overflow_cast-result : goal.overflow_cast-result
overflow_cast-result c =
    let few = few_places c.self.inside.diagram c.self.invariant.0 in
    let long = ap length c.self.invariant.2.labels_are in
    let kept = c.self.inside.places.labels.ok.0 in
    omega (arith, few, long, kept, c.len.ensures)

pub returns-clause-few : goal.returns-clause-few
returns-clause-few c =
    let few = few_places c.self.inside.diagram c.self.invariant.0 in
    let long = ap length c.self.invariant.2.labels_are in
    let kept = c.self.inside.places.labels.ok.0 in
    omega (arith, few, long, kept, c.len.ensures)
