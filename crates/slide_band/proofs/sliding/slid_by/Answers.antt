use Rattle.std.proofs.Common.{◌≡◌, to_z, of_z, inr, ◌∙◌, arith}
use Rattle.std.specs.Int.{w64}
use Rattle.std.proofs.lemmas.Int.{ints}
use Rattle.planar_check.specs.Planar.{planar_refusal}
use Rattle.planar_check.specs.Places.{item_slots}
use Rattle.slide_laws.specs.Directed.{items_of}
use Rattle.slide_band.proofs.Late.{moved_first, over_first, few_pieces, made_diagram, made_leasts, large_told, size_large, size_small, ok_told, err_told, answer_is}
use Rattle.slide_band.proofs.sliding.slid_by.Goals as goal

pub slid_framing-framing-requires-clause-first_i : goal.slid_framing-framing-requires-clause-first_i
slid_framing-framing-requires-clause-first_i c =
    let r = c.requires in
    let low = moved_first c.args.framed.now r.diagram r.framed c.args.edges.edge c.args.edges.along r.passed in
    let is = r.moved in
    omega (arith, low, is)

pub slid_framing-framing-requires-clause-first_j : goal.slid_framing-framing-requires-clause-first_j
slid_framing-framing-requires-clause-first_j c =
    let r = c.requires in
    let low = over_first c.args.framed.now r.diagram r.framed c.args.edges.edge c.args.edges.along r.passed in
    let is = r.over in
    omega (arith, low, is)

pub returns-then-unsigned_abs-gt-GREATEST_FRAMING-clause-refused : goal.returns-then-unsigned_abs-gt-GREATEST_FRAMING-clause-refused
returns-then-unsigned_abs-gt-GREATEST_FRAMING-clause-refused c =
    let a = c.args in
    let r = c.requires in
    let over = c.if-unsigned_abs-gt-GREATEST_FRAMING.true in
    let v = c.unsigned_abs.ensures.value in
    let fits = c.slid_framing-framing.type_inv in
    let value : to_z w64 (of_z w64 c.slid_framing-framing.result) ≡ c.slid_framing-framing.result = omega (arith, ints, fits) in
    inr (large_told a.framed.now r.diagram r.framed a.edges.edge a.edges.along r.passed a.edges.moved a.edges.over a.pieces.now a.at_edge a.at_along c.sign_of-sign.result
    (to_z w64 (of_z w64 c.slid_framing-framing.result)) r.moved r.over c.sign_of-sign.ensures (value ∙ c.slid_framing-framing.ensures)
    (size_large (to_z w64 (of_z w64 c.slid_framing-framing.result)) (omega (arith, v, over))))

pub slid_pieces-requires-clause-few : goal.slid_pieces-requires-clause-few
slid_pieces-requires-clause-few c =
    let r = c.requires in
    few_pieces c.args.framed.now r.diagram r.framed c.args.edges.edge c.args.edges.along r.passed r.small c.args.pieces.now r.pieces

pub finished-requires-clause-diagram : goal.finished-requires-clause-diagram
finished-requires-clause-diagram c =
    let a = c.args in
    let r = c.requires in
    made_diagram a.framed.now r.diagram r.framed a.edges.edge a.edges.along r.passed r.small a.edges.moved a.edges.over a.top a.pieces.now c.deref.result.now a.at_edge a.at_along
    r.moved r.over r.top r.pieces (c.deref.ensures.value ∙ c.in_ok-pieces.ensures)

pub finished-requires-clause-leasts : goal.finished-requires-clause-leasts
finished-requires-clause-leasts c =
    let a = c.args in
    let r = c.requires in
    made_leasts a.framed.now r.diagram r.framed a.edges.edge a.edges.along r.passed r.small a.edges.moved a.edges.over a.top a.pieces.now c.deref.result.now a.at_edge a.at_along
    r.moved r.over r.top r.pieces (c.deref.ensures.value ∙ c.in_ok-pieces.ensures)

pub finished-requires-clause-first : goal.finished-requires-clause-first
finished-requires-clause-first c =
    let r = c.requires in
    let low = moved_first c.args.framed.now r.diagram r.framed c.args.edges.edge c.args.edges.along r.passed in
    let is = r.moved in
    omega (arith, low, is)

pub returns : goal.returns
returns c =
    let a = c.args in
    let r = c.requires in
    let v = c.unsigned_abs.ensures.value in
    let under = c.if-unsigned_abs-gt-GREATEST_FRAMING.false in
    let fits = c.slid_framing-framing.type_inv in
    let value : to_z w64 (of_z w64 c.slid_framing-framing.result) ≡ c.slid_framing-framing.result = omega (arith, ints, fits) in
    let small = size_small (to_z w64 (of_z w64 c.slid_framing-framing.result)) (omega (arith, v, under)) in
    let made = c.deref.result.now in
    let plane = planar_refusal item_slots (items_of made) in
    let told = answer_is a.framed.now r.diagram r.framed a.edges.edge a.edges.along r.passed a.edges.moved a.edges.over a.top a.pieces.now made a.at_edge a.at_along c.sign_of-sign.result (to_z w64 (of_z w64 c.slid_framing-framing.result))
    r.moved r.over r.top (c.deref.ensures.value ∙ c.in_ok-pieces.ensures) c.sign_of-sign.ensures (value ∙ c.slid_framing-framing.ensures) small in
    record {
      made = ok_told c.finished.result _ _ plane c.finished.ensures.made c.finished.ensures.ok told;
      refused = err_told c.finished.result _ _ plane c.finished.ensures.refused told;
    }
