-- Every accepted step keeps a diagram planar.
use Rattle.std.proofs.Common.{◌≡◌, ◌==◌, Bool, cond, List, Some, None, Ok, Err, refl, ap, ⊎_elim, sym, ◌∙◌}
use Rattle.std.specs.Set.{is_member}
use Rattle.std.proofs.lemmas.Bool.{eq-eqb, cases_Bool}
use Rattle.pd_reader.specs.declared.item.Item.{Item}
use Rattle.planar_check.specs.declared.fault.PlanarFault.TheVariants.{NotPlanar}
use Rattle.planar_check.specs.Places.{crossings_of, item_slots}
use Rattle.planar_check.specs.Planar.{IsPlanar, planar_refusal, face_count, wanted_faces}
use Rattle.script_reader.specs.declared.step.Step.TheVariants.{R2, R2Undo, R3, Curl, CurlUndo, BlowUp, Slide}
use Rattle.diagram_moves.specs.Moves.{move}
use Rattle.diagram_moves.specs.Rewriting.{crossing_labels}
use Rattle.diagram_moves.specs.Scripts.{judged, kept_planar}
use Rattle.diagram_moves.specs.Steps.{Moved, Answer}
use Rattle.planar_moves.specs.Laws.{MovesPlanarLaw, NeverRefusedLaw, AlwaysPlanarLaw}
use Rattle.planar_moves.proofs.BlownPlanes.{blow_up_planar}
use Rattle.planar_moves.proofs.CurledLoops.{curl_on_loop_planar}
use Rattle.planar_moves.proofs.CurledPlanes.{curl_planar}
use Rattle.planar_moves.proofs.NotPlanarFaults.{plain_move}
use Rattle.planar_moves.proofs.PushedPlanes.{push_planar}
use Rattle.planar_moves.proofs.SlidPlanes.{slide_planar}
use Rattle.planar_moves.proofs.UndonePlanes.{curl_undo_planar, pull_planar}

pub moves_planar : MovesPlanarLaw
moves_planar items (R2 e f) moved pd planar h = (push_planar items e f moved pd h).0 planar
moves_planar items (R2Undo c d) moved pd planar h = pull_planar items c d moved pd planar h
moves_planar items (R3 c d f) moved pd planar h = (slide_planar items c d f moved pd h).0 planar
moves_planar items (Curl e sign) moved pd planar h =
    ⊎_elim (λ there. (curl_planar items e sign moved pd there h).0 planar) (λ out. (curl_on_loop_planar items e sign moved pd out h).0 planar) (cases_Bool (is_member ◌==◌ (crossing_labels items) e))
moves_planar items (CurlUndo c) moved pd planar h = curl_undo_planar items c moved pd planar h
moves_planar items (BlowUp sign) moved pd planar h = (blow_up_planar items sign moved h).0 planar
moves_planar items (Slide e f) moved pd planar h = absurd cc

-- planar items are not refused
pub not_refused : (items : List Item) → IsPlanar item_slots items → planar_refusal item_slots items ≡ None
not_refused items planar =
    let faces = face_count (crossings_of items) in
    let wanted = wanted_faces (crossings_of items) in
    ap (λ (b : Bool). cond b None (Some (NotPlanar faces wanted))) (eq-eqb faces wanted planar)

kept_as_it_is : (moved : Moved) → IsPlanar item_slots moved.items → kept_planar moved (planar_refusal item_slots moved.items) ≡ Ok moved
kept_as_it_is moved planar = ap (kept_planar moved) (not_refused moved.items planar)

judged_planar : (answer : Answer) → ((moved : Moved) → answer ≡ Ok moved → IsPlanar item_slots moved.items) → judged answer ≡ answer
judged_planar (Err fault) h = refl
judged_planar (Ok moved) h = kept_as_it_is moved (h moved refl)

pub never_refused : NeverRefusedLaw
never_refused items step pd planar = judged_planar (move items step) (λ moved h. moves_planar items step moved pd planar h)

pub always_planar : AlwaysPlanarLaw
always_planar items step faces wanted pd planar h = (plain_move items step).never faces wanted (sym (never_refused items step pd planar) ∙ h)
