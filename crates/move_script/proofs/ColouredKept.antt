-- Reidemeister's second and third moves keep the coloured value, and a curl multiplies it by its factor: what an accepted step gives is the move's
-- result, and no box lies inside the step, so that the laws of coloured moves and of coloured curls speak of it.
use Rattle.std.proofs.Common.{◌≡◌, ℕ, ◌+◌, ◌≤◌, List, Option, Some, None, Ok, Err, ap}
use Rattle.pd_reader.specs.declared.item.Item.{Item}
use Rattle.pd_reader.specs.Diagrams.{IsDiagram}
use Rattle.planar_check.specs.declared.fault.PlanarFault.{PlanarFault}
use Rattle.planar_check.specs.Places.{item_slots}
use Rattle.planar_check.specs.Planar.{planar_refusal}
use Rattle.script_reader.specs.declared.step.Step.{Step}
use Rattle.script_reader.specs.declared.step.Step.TheVariants.{R2, R2Undo, R3, Curl, CurlUndo, BlowUp, Slide}
use Rattle.diagram_moves.specs.Anchors.{anchor_inside}
use Rattle.diagram_moves.specs.Moves.{move}
use Rattle.diagram_moves.specs.Rewriting.{fresh}
use Rattle.diagram_moves.specs.Scripts.{applied, judged, kept_planar}
use Rattle.diagram_moves.specs.Steps.{Answer, Moved, of_plane}
use Rattle.coloured_moves.proofs.ColouredMoves.{coloured_push}
use Rattle.coloured_moves.proofs.ColouredBigons.{coloured_bigon}
use Rattle.coloured_moves.proofs.ColouredSlides.{coloured_slide}
use Rattle.coloured_curls.proofs.AllCurls as all_curls
use Rattle.coloured_curls.proofs.AllUndos as all_undos
use Rattle.move_script.specs.ColouredMoves.{ValueFollows}

-- a result that is kept is the move's
kept_is : (made moved : Moved) (fault : Option PlanarFault) → kept_planar made fault ≡ Ok moved → made ≡ moved
kept_is made moved None h = let e : ◌≡◌ {A = Answer} (Ok made) (Ok moved) = h in cc
kept_is made moved (Some fault) h = let e : ◌≡◌ {A = Answer} (Err (of_plane fault)) (Ok moved) = h in absurd (cc)

judged_is : (answer : Answer) (moved : Moved) → judged answer ≡ Ok moved → answer ≡ Ok moved
judged_is (Err fault) moved h = let e : ◌≡◌ {A = Answer} (Err fault) (Ok moved) = h in absurd (cc)
judged_is (Ok made) moved h = ap Ok (kept_is made moved (planar_refusal item_slots made.items) h)

by_step : (items : List Item) (colours : List ℕ) (step : Step) (moved : Moved) → IsDiagram items → fresh items + 3 ≤ 2000000 → anchor_inside items colours step ≡ None → move items step ≡ Ok moved
    → ValueFollows items colours step moved
by_step items colours (R2 over under) moved is room free made = λ p has exist. coloured_push p items over under moved colours is room has made
by_step items colours (R2Undo first second) moved is room free made = λ p has exist. coloured_bigon p items first second moved colours is has exist free made
by_step items colours (R3 first second third) moved is room free made = λ p has exist. coloured_slide p items first second third moved colours is has exist free made
by_step items colours (Curl edge sign) moved is room free made = λ p has exist. all_curls.curl p items edge sign moved colours is room has exist made
by_step items colours (CurlUndo crossing) moved is room free made = λ here at p has exist. all_undos.curl_undo p items crossing here moved colours is has exist at free made
by_step items colours (BlowUp sign) moved is room free made = tt
by_step items colours (Slide edge along) moved is room free made = tt

-- THE COLOURED VALUE BEHIND A STEP
pub value_follows : (items : List Item) (colours : List ℕ) (step : Step) (moved : Moved) → IsDiagram items → fresh items + 3 ≤ 2000000 → anchor_inside items colours step ≡ None
    → applied items step ≡ Ok moved → ValueFollows items colours step moved
value_follows items colours step moved is room free h = by_step items colours step moved is room free (judged_is (move items step) moved h)
