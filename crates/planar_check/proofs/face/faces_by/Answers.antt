use Rattle.std.proofs.Common.{◌≡◌, ℕ, ◌<◌, List, [], ◌∷◌, ◌++◌, length, map, ap, ◌∙◌, sym, arith, eq-eqb, ne_eqb}
use Rattle.std.specs.List.{filter, range_with_len}
use Rattle.std.proofs.lemmas.List.{map-append}
use Rattle.std.proofs.lemmas.List.FromFn.{length-map-range_with_len}
use Rattle.graph_parts.specs.LeastNames.{least_name}
use Rattle.planar_check.specs.Planar.{next_in_face, face_edges}
use Rattle.planar_check.specs.Faces.{cycle_from, is_least_place, places_of}
use Rattle.planar_check.proofs.FaceSteps.{entry_at, listed_yes, listed_no}
use Rattle.planar_check.proofs.face.faces_by.Goals as goal
use Rattle.planar_check.proofs.face.faces_by.Goals.{then-first-place+in_ok-places+in_ok-push, else-first-place}

pub places_from-requires-clause-start_in_range : goal.places_from-requires-clause-start_in_range
places_from-requires-clause-start_in_range c =
    let n = length c.args.others.now in
    let long = length-map-range_with_len (least_name (range_with_len 0 n) (face_edges c.args.after.now c.args.others.now)) 0 n in
    omega (arith, c.loop-place-test.true, ap length c.requires.least, long)

pub loop-place-preserved : goal.loop-place-preserved
loop-place-preserved c =
    let after = c.args.after.now in
    let others = c.args.others.now in
    let n = length others in
    let p = c.loop-place.place in
    let f : ℕ → List ℕ = λ q. cycle_from (next_in_face after others) q q n in
    let least = least_name (range_with_len 0 n) (face_edges after others) in
    let long = length-map-range_with_len least 0 n in
    let here : p < n = omega (arith, c.loop-place-test.true, ap length c.requires.least, long) in
    let entry = entry_at least n p c.args.least.now c.requires.least here in
    let before = c.loop-place.found.items in
    elim c.if-first-place.branch [
      | then-first-place+in_ok-places+in_ok-push w ↦
          listed_yes (is_least_place after others) f p _ _ c.loop-place.invariant (eq-eqb (least p) p (sym entry ∙ w.if-first-place.true))
          (ap (λ v. map places_of v.items) w.found-is
          ∙ (ap (map places_of) w.in_ok-push.ensures.items
          ∙ (map-append places_of before (record { places = w.in_ok-places.places } ∷ []) ∙ ap (λ (face : List ℕ). map places_of before ++ face ∷ []) w.in_ok-places.ensures)))
      | else-first-place w ↦
          listed_no (is_least_place after others) f p _ _ c.loop-place.invariant (ne_eqb (least p) p (λ e. w.if-first-place.false (entry ∙ e))) (ap (λ v. map places_of v.items) w.found-is)
    ]

pub returns : goal.returns
returns c =
    let after = c.args.after.now in
    let others = c.args.others.now in
    let n = length others in
    let long = length-map-range_with_len (least_name (range_with_len 0 n) (face_edges after others)) 0 n in
    let whole : c.loop-place.place ≡ n = omega (arith, c.loop-place-test.false, c.loop-place.auto.place-end, ap length c.requires.least, long) in
    c.loop-place.invariant ∙ ap (λ (k : ℕ). map (λ p. cycle_from (next_in_face after others) p p n) (filter (is_least_place after others) (range_with_len 0 k))) whole
