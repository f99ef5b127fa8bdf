use Rattle.std.proofs.Common.{◌≡◌, ◌<◌, ◌^◌, Some, sym, ◌∙◌, arith, rules}
use Rattle.planar_check.specs.Places.{crossings_of, place_labels, first_place}
use Rattle.planar_check.proofs.Crossings.{few_places}
use Rattle.planar_check.proofs.PlaceTables.{first_within}
use Rattle.planar_check.proofs.planar.Planar.first_place.Goals as goal

pub overflow_cast-result : goal.overflow_cast-result
overflow_cast-result c =
    let xs = c.self.inside.diagram in
    let is : first_place (place_labels xs) c.args.label ≡ Some c.in-Some.place.now = sym (c.in-Some.ensures.value ∙ c.self.invariant.2.firsts_are c.args.label) in
    let below = first_within (crossings_of xs) c.args.label c.in-Some.place.now is in
    let few = few_places xs c.self.invariant.0 in
    let small : c.in-Some.place.now < 2 ^ 32 = omega (arith, below, few) in
    search rules
