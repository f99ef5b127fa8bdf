use Rattle.std.proofs.Common.{◌≡◌, ℕ, List, length, map, refl, subst, ap, ◌∙◌, arith, IfOk}
use Rattle.planar_check.specs.Places.{crossings_of, labels_by_place, slots_after, other_places}
use Rattle.planar_check.specs.Faces.{faces, faces_by, places_of}
use Rattle.planar_check.proofs.PlaceLists.{lists_are, others_long, after_long, after_in_range, others_in_range}
use Rattle.planar_check.proofs.FaceLists.{faces_read}
use Rattle.planar_check.proofs.face.faces.Goals as goal

pub faces_by-requires-clause-few : goal.faces_by-requires-clause-few
faces_by-requires-clause-few c =
    let e = c.in_ok-places.ensures in
    let cs = crossings_of c.items.result.now in
    let are = lists_are cs c.in_ok-places.places c.deref.result.now _ c.deref-2.result.now e.places c.deref.ensures.value refl c.deref-2.ensures.value in
    omega (arith, others_long cs _ _ _ are, ap length e.places.labels_are, e.few, c.items.ensures.diagram.few, ap length c.items.ensures.items, c.in_ok-places.places.labels.ok.0)

pub faces_by-requires-clause-same_length : goal.faces_by-requires-clause-same_length
faces_by-requires-clause-same_length c =
    let cs = crossings_of c.items.result.now in
    after_long cs _ _ _ (lists_are cs c.in_ok-places.places c.deref.result.now _ c.deref-2.result.now c.in_ok-places.ensures.places c.deref.ensures.value refl c.deref-2.ensures.value)

pub faces_by-requires-clause-after_in_range : goal.faces_by-requires-clause-after_in_range
faces_by-requires-clause-after_in_range c =
    let cs = crossings_of c.items.result.now in
    after_in_range cs _ _ _ (lists_are cs c.in_ok-places.places c.deref.result.now _ c.deref-2.result.now c.in_ok-places.ensures.places c.deref.ensures.value refl c.deref-2.ensures.value)

pub faces_by-requires-clause-others_in_range : goal.faces_by-requires-clause-others_in_range
faces_by-requires-clause-others_in_range c =
    let cs = crossings_of c.items.result.now in
    others_in_range cs _ _ _ (lists_are cs c.in_ok-places.places c.deref.result.now _ c.deref-2.result.now c.in_ok-places.ensures.places c.deref.ensures.value refl c.deref-2.ensures.value)

pub faces_by-requires-clause-least : goal.faces_by-requires-clause-least
faces_by-requires-clause-least c =
    let e = c.in_ok-places.ensures.places in
    faces_read (crossings_of c.items.result.now) c.deref.result.now c.deref-2.result.now c.deref-3.result.now (c.deref.ensures.value ∙ e.after_are) (c.deref-2.ensures.value ∙ e.others_are) (c.deref-3.ensures.value ∙ e.faces_are)

pub returns : goal.returns
unfolding faces
returns c =
    let e = c.in_ok-places.ensures.places in
    let same = c.items.ensures.items in
    let after : c.deref.result.now ≡ slots_after 0 (crossings_of c.args.diagram.now) =
    c.deref.ensures.value ∙ (e.after_are ∙ ap (λ items. slots_after 0 (crossings_of items)) same) in
    let others : c.deref-2.result.now ≡ other_places (labels_by_place (crossings_of c.args.diagram.now)) =
    c.deref-2.ensures.value ∙ (e.others_are ∙ ap (λ items. other_places (labels_by_place (crossings_of items))) same) in
    let P : List (List ℕ) → Type 0 = λ fs. IfOk c.faces_by.result (λ found. map places_of found.items ≡ fs) in
    subst P (ap (λ (ts : List ℕ). faces_by ts c.deref-2.result.now) after ∙ ap (λ (os : List ℕ). faces_by (slots_after 0 (crossings_of c.args.diagram.now)) os) others) c.faces_by.ensures
