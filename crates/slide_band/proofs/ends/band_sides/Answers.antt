use Rattle.std.proofs.Common.{◌%◌, ℕ, Bool, List, length, map, ap, ◌∙◌, arith}
use Rattle.std.proofs.lemmas.List.{length-map}
use Rattle.slide_strands.specs.Strands.{ends}
use Rattle.slide_band.specs.Faces.{face_list}
use Rattle.slide_band.specs.Sides.{sides_from}
use Rattle.slide_band.proofs.Found.{ends_fours, ends_few, faces_long}
use Rattle.slide_band.proofs.ends.band_sides.Goals as goal

abbrev end_label : ℕ × Bool → ℕ
end_label end = end.0

pub faces-requires : goal.faces-requires
faces-requires c =
    let labels = c.deref-2.ensures.value ∙ (c.in_ok-labels.ensures ∙ ap (map end_label) (c.deref.ensures.value ∙ c.in_ok-ends.ensures)) in
    ap (λ (ls : List ℕ). length ls % 4) labels ∙ (ap (λ (n : ℕ). n % 4) (length-map (ends c.args.pieces.now) end_label) ∙ ends_fours c.args.pieces.now)

pub sides_between-requires-clause-few : goal.sides_between-requires-clause-few
sides_between-requires-clause-few c =
    let ends_are = ap length (c.deref-3.ensures.value ∙ c.in_ok-ends.ensures) in
    omega (arith, ends_are, ends_few c.args.pieces.now)

pub sides_between-requires-clause-faces : goal.sides_between-requires-clause-faces
sides_between-requires-clause-faces c =
    let faces = ap length (c.deref-5.ensures.value ∙ c.in_ok-faces.ensures) in
    let both = ap length c.deref-2.ensures.value in
    let labels = ap length c.deref-4.ensures.value in
    omega (arith, faces, faces_long c.deref-2.result.now, both, labels)

pub returns : goal.returns
returns c =
    let ps = c.args.pieces.now in
    let e = c.args.e in
    let f = c.args.f in
    let ends_are = c.deref-3.ensures.value ∙ c.in_ok-ends.ensures in
    let read = c.in_ok-labels.ensures ∙ ap (map end_label) (c.deref.ensures.value ∙ c.in_ok-ends.ensures) in
    let labels = c.deref-4.ensures.value ∙ read in
    let faces = c.deref-5.ensures.value ∙ (c.in_ok-faces.ensures ∙ ap face_list (c.deref-2.ensures.value ∙ read)) in
    c.sides_between.ensures
    ∙ (ap (λ (es : List (ℕ × Bool)). sides_from es c.deref-4.result.now c.deref-5.result.now e f) ends_are
    ∙ (ap (λ (ls : List ℕ). sides_from (ends ps) ls c.deref-5.result.now e f) labels
    ∙ ap (λ (fs : List ℕ). sides_from (ends ps) (map end_label (ends ps)) fs e f) faces))
