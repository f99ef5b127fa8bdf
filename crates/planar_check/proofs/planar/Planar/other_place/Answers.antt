use Rattle.std.proofs.Common.{◌<◌, ◌^◌, arith, rules}
use Rattle.planar_check.proofs.PlacesTold.{others_there, other_told}
use Rattle.planar_check.proofs.planar.Planar.other_place.Goals as goal

pub index-requires : goal.index-requires
index-requires c = omega (arith, others_there c.self.view_is c.args.place c.requires c.self.inside.places c.self.invariant.2, c.self.inside.places.others.ok.0)

pub overflow_cast-result : goal.overflow_cast-result
overflow_cast-result c =
    let small : c.index.result.now < 2 ^ 32 = (other_told c.self.view_is c.args.place c.requires c.self.inside.places c.self.invariant.2 c.index.result.now c.index.ensures).small c.self.invariant.0 in
    search rules

pub returns : goal.returns
returns c =
    let read = other_told c.self.view_is c.args.place c.requires c.self.inside.places c.self.invariant.2 c.index.result.now c.index.ensures in
    record { place = read.told; in_range = read.in_range }
