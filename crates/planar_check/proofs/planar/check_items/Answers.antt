use Rattle.std.proofs.Common.{refl, length, ap, arith}
use Rattle.planar_check.specs.Places.{slot_lists}
use Rattle.planar_check.proofs.PlaceLists.{lists_are, others_long}
use Rattle.planar_check.proofs.planar.check_items.Goals as goal

pub count-requires-clause-few : goal.count-requires-clause-few
count-requires-clause-few g c =
    let places = c.in_ok-places.places in
    let cs = slot_lists g.I.Placed.slots_of c.args.items.now in
    let are = c.in_ok-places.ensures.places in
    let lists = lists_are cs places places.after.items places.owners.items places.others.items are refl refl refl in
    omega (arith, others_long cs _ _ _ lists, ap length are.labels_are, places.labels.ok.0, c.in_ok-places.ensures.few, c.requires)
