use Rattle.std.proofs.Common.{unsigned_abs, ap, ◌∙◌, arith}
use Rattle.std.proofs.lemmas.Int.{ints}
use Rattle.planar_check.specs.Signs.{writhe}
use Rattle.slide_band.proofs.Early.{framing_small, writhe_small}
use Rattle.slide_band.proofs.refusals.excess.Goals as goal

pub overflow_sub-result : goal.overflow_sub-result
overflow_sub-result c =
    let f = ap unsigned_abs c.framing.ensures in
    let fs = framing_small c.args.framed.now c.args.component c.planar.ensures.framed c.requires.first c.requires.last in
    let w = ap unsigned_abs (c.writhe.ensures ∙ ap (λ xs. writhe xs c.args.component) c.planar.ensures.planar) in
    let ws = writhe_small c.args.framed.now.items c.args.component c.requires.diagram in
    omega (arith, ints, f, fs, w, ws)

pub returns-clause-excess : goal.returns-clause-excess
returns-clause-excess c =
    let f = ap unsigned_abs c.framing.ensures in
    let fs = framing_small c.args.framed.now c.args.component c.planar.ensures.framed c.requires.first c.requires.last in
    let we = c.writhe.ensures ∙ ap (λ xs. writhe xs c.args.component) c.planar.ensures.planar in
    let w = ap unsigned_abs we in
    let ws = writhe_small c.args.framed.now.items c.args.component c.requires.diagram in
    let fe = c.framing.ensures in
    omega (arith, ints, f, fs, w, ws, fe, we)

pub returns-clause-small : goal.returns-clause-small
returns-clause-small c =
    let f = ap unsigned_abs c.framing.ensures in
    let fs = framing_small c.args.framed.now c.args.component c.planar.ensures.framed c.requires.first c.requires.last in
    let w = ap unsigned_abs (c.writhe.ensures ∙ ap (λ xs. writhe xs c.args.component) c.planar.ensures.planar) in
    let ws = writhe_small c.args.framed.now.items c.args.component c.requires.diagram in
    omega (arith, ints, f, fs, w, ws)
