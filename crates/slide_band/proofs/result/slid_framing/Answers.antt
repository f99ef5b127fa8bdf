use Rattle.std.proofs.Common.{List, unsigned_abs, ap, ◌∙◌, ◌*ℤ◌, arith}
use Rattle.std.proofs.lemmas.Int.{ints}
use Rattle.pd_reader.specs.declared.item.Item.{Item}
use Rattle.planar_check.specs.Signs.{sign_sum}
use Rattle.planar_check.specs.Tables.{sign_value}
use Rattle.slide_band.proofs.Early.{framing_small}
use Rattle.slide_band.proofs.result.slid_framing.Goals as goal

pub overflow_add-result : goal.overflow_add-result
overflow_add-result c =
    let is_framed = c.planar-planar.ensures.framed in
    let f = ap unsigned_abs c.framing.ensures in
    let fs = framing_small c.args.framed.now c.args.i is_framed c.requires.first_i c.requires.last_i in
    let g = ap unsigned_abs c.framing-2.ensures in
    let gs = framing_small c.args.framed.now c.args.j is_framed c.requires.first_j c.requires.last_j in
    omega (arith, ints, f, fs, g, gs)

pub overflow_add-result-2 : goal.overflow_add-result-2
overflow_add-result-2 c =
    let is_framed = c.planar-planar.ensures.framed in
    let f = ap unsigned_abs c.framing.ensures in
    let fs = framing_small c.args.framed.now c.args.i is_framed c.requires.first_i c.requires.last_i in
    let g = ap unsigned_abs c.framing-2.ensures in
    let gs = framing_small c.args.framed.now c.args.j is_framed c.requires.first_j c.requires.last_j in
    let s = c.signed_sum.ensures.small in
    omega (arith, ints, f, fs, g, gs, s)

pub returns : goal.returns
returns c =
    let is_framed = c.planar-planar.ensures.framed in
    let f = ap unsigned_abs c.framing.ensures in
    let fs = framing_small c.args.framed.now c.args.i is_framed c.requires.first_i c.requires.last_i in
    let g = ap unsigned_abs c.framing-2.ensures in
    let gs = framing_small c.args.framed.now c.args.j is_framed c.requires.first_j c.requires.last_j in
    let s = c.signed_sum.ensures.small in
    let fe = c.framing.ensures in
    let ge = c.framing-2.ensures in
    let se = c.signed_sum.ensures.sum ∙ ap (λ (xs : List Item). sign_value c.args.sign *ℤ sign_sum xs c.args.i c.args.j) c.planar-planar.ensures.planar in
    omega (arith, ints, f, fs, g, gs, s, fe, ge, se)
