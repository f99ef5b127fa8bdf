use Rattle.std.proofs.Common.{◌≡◌, Bool, List, length, get_or, subst, ap, ◌∙◌, ◌+◌, arith}
use Rattle.pd_reader.specs.declared.item.Item.{Item}
use Rattle.planar_check.specs.Places.{place_labels}
use Rattle.planar_check.specs.Signs.{enters}
use Rattle.std.proofs.lemmas.List.FromFn.{length-map-range_with_len, get_or-map-range_with_len}
use Rattle.planar_check.proofs.PlacesTold.{place_within}
use Rattle.planar_check.proofs.planar.Planar.enters.Goals as goal

pub index-requires : goal.index-requires
index-requires c =
    let within = place_within c.self.view_is c.args.place c.requires in
    let xs = c.self.inside.diagram in
    let long = ap length c.self.invariant.4 ∙ length-map-range_with_len (enters xs) 0 (length (place_labels xs)) in
    let kept = c.self.inside.components.entered.ok.0 in
    omega (arith, within, long, kept)

pub returns : goal.returns
returns c =
    let within = place_within c.self.view_is c.args.place c.requires in
    let xs = c.self.inside.diagram in
    let P : List Item → Type 0 = λ items. c.index.result.now ≡ enters items c.args.place in
    subst P c.self.view_is
    (c.index.ensures
    ∙ (ap (λ (bs : List Bool). get_or bs c.args.place c.index.result.now) c.self.invariant.4
    ∙ get_or-map-range_with_len (enters xs) 0 (length (place_labels xs)) c.args.place c.args.place c.index.result.now within (let z : 0 + c.args.place ≡ c.args.place = omega arith in z)))
