use Rattle.std.proofs.Common.{◌≡◌, List, to_z, of_z, unsigned_abs, ap, subst, ◌∙◌, arith}
use Rattle.std.specs.Int.{w64}
use Rattle.std.specs.Result.{IfOk}
use Rattle.std.proofs.lemmas.Int.{ints}
use Rattle.inertia_laws.specs.Matrices.{is_positive}
use Rattle.pd_reader.specs.declared.item.Item.{Item}
use Rattle.planar_check.specs.Directions.{comes_in}
use Rattle.planar_check.specs.Places.{first_place, place_labels}
use Rattle.planar_check.specs.Signs.{enters}
use Rattle.slide_strands.specs.declared.strand.Piece.{Piece}
use Rattle.slide_band.proofs.Steps.{framed_told}
use Rattle.slide_band.proofs.edges.framed_pieces.Goals as goal

pub returns : goal.returns
returns c =
    let a = c.args in
    let f = a.edges.along in
    let small = c.excess-excess.ensures.small in
    let same : to_z w64 (of_z w64 c.excess-excess.result) ≡ c.excess-excess.result = omega (arith, ints, small) in
    let is = same ∙ c.excess-excess.ensures.excess in
    let entered = c.comes_in-entered.ensures ∙ ap (λ (xs : List Item). comes_in (enters xs) (first_place (place_labels xs) f)) c.planar.ensures.planar in
    let made = framed_told a.framed.now c.requires.diagram f a.edges.over a.top c.unsigned_abs-count.result c.is_positive.result c.comes_in-entered.result a.pieces.items
    c.requires.component c.requires.top (c.is_positive.ensures ∙ ap is_positive is) entered (c.unsigned_abs-count.ensures.value ∙ ap unsigned_abs is) c.requires.pieces in
    let Q : List Piece → Type 0 = λ ps. IfOk c.curls.result (λ made. made.items ≡ ps) in
    subst Q made c.curls.ensures
