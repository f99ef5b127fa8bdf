-- No step is refused for want of memory: each refusal of a move or a slide is one that a script tells.
use Rattle.std.proofs.Common.{◌≡◌, ℕ, Bool, true, false, cond, nat_lt, ◌==◌, ◌||◌, not, List, [], ◌∷◌, length, Option, Some, None, Result, Ok, Err, refl}
use Rattle.std.specs.List.{find, range_with_len}
use Rattle.std.specs.Option.{option_or}
use Rattle.pd_reader.specs.declared.item.Item.{Item}
use Rattle.planar_check.specs.declared.fault.PlanarFault.{PlanarFault}
use Rattle.planar_check.specs.Places.{crossings_of, item_slots, place_labels}
use Rattle.planar_check.specs.Components.{number_of}
use Rattle.planar_check.specs.Framings.{FramedDiagram, framing_of, is_large}
use Rattle.planar_check.specs.Signs.{signed_crossings}
use Rattle.planar_check.specs.declared.sign.Signed.{Signed}
use Rattle.planar_check.specs.Planar.{planar_refusal, face_count, wanted_faces}
use Rattle.planar_check.specs.Places.{slot_lists}
use Rattle.planar_check.specs.declared.fault.PlanarFault.TheVariants as planes
use Rattle.script_reader.specs.declared.step.Step.{Step}
use Rattle.script_reader.specs.declared.step.Step.TheVariants.{R2, R2Undo, R3, Curl, CurlUndo, BlowUp, Slide}
use Rattle.diagram_moves.specs.declared.factor.Factor.{Factor}
use Rattle.diagram_moves.specs.declared.fault.MoveFault.{MoveFault}
use Rattle.diagram_moves.specs.declared.fault.MoveFault.TheVariants as faults
use Rattle.diagram_moves.specs.Moves.{finished, given, unless, is_edge, is_loop, first_place_of, second_place, same_face, push, pull, slide_over, is_bigon, slot_pairs, is_triangle, slot_triples, is_curl, four, move}
use Rattle.diagram_moves.specs.Rewriting.{crossing_at}
use Rattle.diagram_moves.specs.Scripts.{applied, judged, kept_planar}
use Rattle.diagram_moves.specs.Steps.{Answer, Moved}
use Rattle.slide_laws.specs.declared.fault.SlideFault.{SlideFault}
use Rattle.slide_laws.specs.declared.fault.SlideFault.TheVariants as slides
use Rattle.slide_laws.specs.Refusals.{of_plane}
use Rattle.slide_laws.specs.Slides as slide
use Rattle.slide_laws.specs.Slides.{SlidDiagram, band_places, early_refusal, edge_refusal, framed_pieces, items_after, late_refusal, odd_pair, odd_with, slid, slid_at}
use Rattle.slide_laws.specs.Directed.{items_of}
use Rattle.script_values.specs.declared.step_fault.StepFault.{StepFault}
use Rattle.script_values.specs.declared.step_fault.StepFault.TheVariants.{Refused}
use Rattle.script_values.specs.declared.step_refusal.StepRefusal.{StepRefusal}
use Rattle.script_values.specs.declared.step_refusal.StepRefusal.TheVariants as refusals
use Rattle.script_values.specs.Refusals.{fault_of_move, fault_of_slide}

abbrev pub IsRefused : StepFault → Type 0
IsRefused fault = (refusal : StepRefusal) × (fault ≡ Refused refusal)

abbrev pub IsTold : MoveFault → Type 0
IsTold fault = IsRefused (fault_of_move fault)

abbrev pub Tells : Answer → Type 0
Tells (Ok moved) = Unit {0}
Tells (Err fault) = IsTold fault

-- ---- what moves share
tells_finished : (factor : Factor) (items : List Item) → Tells (finished factor items)
tells_finished factor items = cases (nat_lt 256 (length items))
  where
    cases : (many : Bool) → Tells (cond {A = Answer} many (Err (faults.TooMany 256)) (Ok record { items = items; factor = factor }))
    cases true = (refusals.TooMany 256, refl)
    cases false = tt

tells_given : {X : Type 0} (o : Option X) (fault : MoveFault) (next : X → Answer) → IsTold fault → ((x : X) → Tells (next x)) → Tells (given o fault next)
tells_given None fault next told h = told
tells_given (Some x) fault next told h = h x

tells_unless : (test : Bool) (fault : MoveFault) (next : Answer) → IsTold fault → Tells next → Tells (unless test fault next)
tells_unless true fault next told h = told
tells_unless false fault next told h = h

-- ---- the moves
no_edge : (e : ℕ) → IsTold (faults.NoEdge e)
no_edge e = (refusals.NoEdge e, refl)

no_crossing : (c : ℕ) → IsTold (faults.NoCrossing c)
no_crossing c = (refusals.NoCrossing c, refl)

loop_edge : (e : ℕ) → IsTold (faults.LoopEdge e)
loop_edge e = (refusals.LoopEdge e, refl)

tells_push : (items : List Item) (e f : ℕ) → Tells (push items e f)
tells_push items e f =
    let first = first_place_of (place_labels items) f in
    let meets = λ (p : ℕ). same_face items p first || same_face items p (second_place items f) in
    tells_unless (not (is_edge items e)) (faults.NoEdge e) _ (no_edge e)
    (tells_unless (not (is_edge items f)) (faults.NoEdge f) _ (no_edge f)
    (tells_unless (e == f) faults.SameEdge _ (refusals.SameEdge, refl)
    (tells_unless (is_loop items e) (faults.LoopEdge e) _ (loop_edge e)
    (tells_unless (is_loop items f) (faults.LoopEdge f) _ (loop_edge f)
    (tells_unless (not (meets (first_place_of (place_labels items) e) || meets (second_place items e))) faults.NotSameFace _ (refusals.NotSameFace, refl) (tells_finished _ _))))))

tells_pull : (items : List Item) (c d : ℕ) → Tells (pull items c d)
tells_pull items c d =
    tells_given (crossing_at items c) (faults.NoCrossing c) _ (no_crossing c) (λ here.
    tells_given (crossing_at items d) (faults.NoCrossing d) _ (no_crossing d) (λ there.
    tells_unless (c == d) faults.NotBigon _ (refusals.NotBigon, refl) (tells_given (find (is_bigon here there) slot_pairs) faults.NotBigon _ (refusals.NotBigon, refl) (λ at. tells_finished _ _))))

tells_slide : (items : List Item) (c d f : ℕ) → Tells (slide_over items c d f)
tells_slide items c d f =
    tells_given (crossing_at items c) (faults.NoCrossing c) _ (no_crossing c) (λ first.
    tells_given (crossing_at items d) (faults.NoCrossing d) _ (no_crossing d) (λ second.
    tells_given (crossing_at items f) (faults.NoCrossing f) _ (no_crossing f) (λ third.
    tells_unless (c == d || (d == f || c == f)) faults.NotTriangle _ (refusals.NotTriangle, refl)
    (tells_given (find (λ at. is_triangle first second third at || is_triangle first third second at) slot_triples) faults.NotTriangle _ (refusals.NotTriangle, refl) (λ at. tells_finished _ _)))))

tells_move : (items : List Item) (step : Step) → Tells (move items step)
tells_move items (R2 e f) = tells_push items e f
tells_move items (R2Undo c d) = tells_pull items c d
tells_move items (R3 c d f) = tells_slide items c d f
tells_move items (Curl e sign) = tells_unless (not (is_edge items e)) (faults.NoEdge e) _ (no_edge e) (tells_finished _ _)
tells_move items (CurlUndo c) =
    tells_given (crossing_at items c) (faults.NoCrossing c) _ (no_crossing c) (λ here. tells_given (find (is_curl here) four) faults.NotCurl _ (refusals.NotCurl, refl) (λ s. tells_finished _ _))
tells_move items (BlowUp sign) = tells_finished _ _
tells_move items (Slide e f) = no_edge e

-- ---- with the plane
tells_planar : (moved : Moved) → Tells (kept_planar moved (planar_refusal item_slots moved.items))
tells_planar moved = cases (face_count (slot_lists item_slots moved.items) == wanted_faces (slot_lists item_slots moved.items))
  where
    faces : ℕ
    faces = face_count (slot_lists item_slots moved.items)

    wanted : ℕ
    wanted = wanted_faces (slot_lists item_slots moved.items)

    cases : (same : Bool) → Tells (kept_planar moved (cond {A = Option PlanarFault} same None (Some (planes.NotPlanar faces wanted))))
    cases true = tt
    cases false = (refusals.NotPlanar faces wanted, refl)

tells_judged : (answer : Answer) → Tells answer → Tells (judged answer)
tells_judged (Ok moved) h = tells_planar moved
tells_judged (Err fault) h = h

-- EACH REFUSAL OF A STEP IS TOLD
pub refusals_are_told : (items : List Item) (step : Step) → Tells (applied items step)
refusals_are_told items step = tells_judged (move items step) (tells_move items step)

-- ---- slides
abbrev pub TellsSlide : Result SlidDiagram SlideFault → Type 0
TellsSlide (Ok result) = Unit {0}
TellsSlide (Err fault) = IsRefused (fault_of_slide fault)

abbrev TellsAny : Option SlideFault → Type 0
TellsAny None = Unit {0}
TellsAny (Some fault) = IsRefused (fault_of_slide fault)

tells_or : (a b : Option SlideFault) → TellsAny a → TellsAny b → TellsAny (option_or a b)
tells_or None b h k = k
tells_or (Some fault) b h k = h

tells_if : (test : Bool) (fault : SlideFault) → IsRefused (fault_of_slide fault) → TellsAny (cond test (Some fault) None)
tells_if true fault told = told
tells_if false fault told = tt

tells_edges : (test : ℕ → Bool) (refusal : ℕ → SlideFault) → ((label : ℕ) → IsRefused (fault_of_slide (refusal label))) → (e f : ℕ) → TellsAny (edge_refusal test refusal e f)
tells_edges test refusal told e f = cases (test e) (test f)
  where
    cases : (a b : Bool) → TellsAny (cond a (Some (refusal e)) (cond b (Some (refusal f)) None))
    cases true b = told e
    cases false true = told f
    cases false false = tt

tells_odd : (crossings : List Signed) (numbers all : List ℕ) → TellsAny (odd_pair crossings numbers all)
tells_odd crossings [] all = tt
tells_odd crossings (a ∷ rest) all = cases (tells_odd crossings rest all) (odd_with crossings a all)
  where
    cases : TellsAny (odd_pair crossings rest all) → (o : Option ℕ) → TellsAny (elim o as (λ _. Option SlideFault) [ None ↦ odd_pair crossings rest all | Some b ↦ Some (slides.OddSigns a b) ])
    cases told None = told
    cases told (Some b) = (refusals.OddSigns a b, refl)

tells_early : (framed : FramedDiagram) (e f : ℕ) → TellsAny (early_refusal framed e f)
tells_early framed e f =
    let items = framed.items in
    let numbers = range_with_len 1 (length framed.framings) in
    let absent : Option SlideFault = edge_refusal (λ x. not (slide.is_edge items x)) slides.NoEdge e f in
    let loops : Option SlideFault = edge_refusal (slide.is_loop items) slides.LoopEdge e f in
    let one = number_of items e == number_of items f in
    let same : Option SlideFault = cond one (Some slides.SameComponent) None in
    let odd : Option SlideFault = odd_pair (signed_crossings items) numbers numbers in
    let more = nat_lt 256 (items_after framed (number_of items f)) in
    let many : Option SlideFault = cond more (Some (slides.TooMany 256)) None in
    tells_or absent (option_or loops (option_or same (option_or odd many))) (tells_edges (λ x. not (slide.is_edge items x)) slides.NoEdge (λ label. (refusals.NoEdge label, refl)) e f)
    (tells_or loops (option_or same (option_or odd many)) (tells_edges (slide.is_loop items) slides.LoopEdge (λ label. (refusals.LoopEdge label, refl)) e f)
    (tells_or same (option_or odd many) (tells_if one slides.SameComponent (refusals.SameComponent, refl))
    (tells_or odd many (tells_odd (signed_crossings items) numbers numbers) (tells_if more (slides.TooMany 256) (refusals.TooMany 256, refl)))))

tells_late : (framed : FramedDiagram) (i : ℕ) (result : SlidDiagram) → TellsSlide (late_refusal framed i result)
tells_late framed i result = cases (is_large (framing_of result.framed i)) (face_count lists == wanted_faces lists)
  where
    lists : List (List ℕ)
    lists = slot_lists item_slots result.framed.items

    cases : (large same : Bool) → TellsSlide (cond large (Err (slides.FramingSize i)) (elim (cond {A = Option PlanarFault} same None (Some (planes.NotPlanar (face_count lists) (wanted_faces lists)))) as (λ _. Result SlidDiagram SlideFault) [
      | None ↦ Ok result
      | Some fault ↦ Err (of_plane fault)
    ]))
    cases true same = (refusals.FramingSize i, refl)
    cases false true = tt
    cases false false = (refusals.NotPlanar (face_count lists) (wanted_faces lists), refl)

-- EACH REFUSAL OF A SLIDE IS TOLD
pub slides_are_told : (framed : FramedDiagram) (e f : ℕ) → TellsSlide (slid framed e f)
unfolding slid
slides_are_told framed e f = by_early (early_refusal framed e f) (tells_early framed e f)
  where
    by_places : (o : Option (ℕ × ℕ)) → TellsSlide (elim o as (λ _. Result SlidDiagram SlideFault) [
      | None ↦ Err slides.NotSameFace
      | Some places ↦ late_refusal framed (number_of framed.items e) (slid_at framed e f (framed_pieces framed f) places.0 places.1)
    ])
    by_places None = (refusals.NotSameFace, refl)
    by_places (Some places) = tells_late framed (number_of framed.items e) (slid_at framed e f (framed_pieces framed f) places.0 places.1)

    by_early : (o : Option SlideFault) → TellsAny o → TellsSlide (elim o as (λ _. Result SlidDiagram SlideFault) [
      | Some refusal ↦ Err refusal
      | None ↦ elim (band_places (crossings_of (items_of (framed_pieces framed f))) e f) as (λ _. Result SlidDiagram SlideFault) [
        | None ↦ Err slides.NotSameFace
        | Some places ↦ late_refusal framed (number_of framed.items e) (slid_at framed e f (framed_pieces framed f) places.0 places.1)
      ]
    ])
    by_early None told = by_places (band_places (crossings_of (items_of (framed_pieces framed f))) e f)
    by_early (Some fault) told = told
