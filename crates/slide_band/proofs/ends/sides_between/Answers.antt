use Rattle.std.proofs.Common.{slice_index, sym, arith}
use Rattle.slide_band.proofs.Found.{start_below, end_below}
use Rattle.slide_band.proofs.ends.sides_between.Goals as goal

pub place_in_face-requires-clause-within : goal.place_in_face-requires-clause-within
place_in_face-requires-clause-within c = start_below c.args.labels.now (slice_index c.args.faces.now) c.args.e c.args.f c.in-Some.start (sym c.in-Some.ensures)

pub offset_bounds-ends-start : goal.offset_bounds-ends-start
offset_bounds-ends-start c =
    let l = start_below c.args.labels.now (slice_index c.args.faces.now) c.args.e c.args.f c.in-Some.start (sym c.in-Some.ensures) in
    omega (arith, l)

pub bounds-ends-start : goal.bounds-ends-start
bounds-ends-start c =
    let l = start_below c.args.labels.now (slice_index c.args.faces.now) c.args.e c.args.f c.in-Some.start (sym c.in-Some.ensures) in
    omega (arith, l)

pub offset_bounds-ends-end : goal.offset_bounds-ends-end
offset_bounds-ends-end c =
    let l = end_below c.args.labels.now (slice_index c.args.faces.now) c.args.f c.in-Some.start c.in-Some-place_in_face.end (sym c.in-Some-place_in_face.ensures) in
    omega (arith, l)

pub bounds-ends-end : goal.bounds-ends-end
bounds-ends-end c =
    let l = end_below c.args.labels.now (slice_index c.args.faces.now) c.args.f c.in-Some.start c.in-Some-place_in_face.end (sym c.in-Some-place_in_face.ensures) in
    omega (arith, l)
