-- A blow-up of a planar diagram with room for an item is made.
use Rattle.std.proofs.Common.{◌≡◌, ◌⊎◌, inl, inr, ℕ, ◌<◌, ◌≤◌, ◌==◌, false, cond, ltb, pos, negsuc, List, [], ◌∷◌, ◌++◌, length, length-append, Option, Some, None, Result, Ok, Err, refl, sym, ap, ◌∙◌, arith}
use Rattle.std.proofs.lemmas.Bool.{eq-eqb, le-ltb}
use Rattle.root_quantum.specs.Parameters.{Parameters}
use Rattle.pd_reader.specs.declared.item.Item.{Item}
use Rattle.pd_reader.specs.declared.item.Item.TheVariants as item
use Rattle.pd_reader.specs.Diagrams.{IsDiagram, labels}
use Rattle.pd_reader.specs.Items.{item_labels}
use Rattle.planar_check.specs.declared.fault.PlanarFault.{PlanarFault}
use Rattle.planar_check.specs.declared.fault.PlanarFault.TheVariants as planes
use Rattle.planar_check.specs.declared.sign.Sign.{Sign}
use Rattle.planar_check.specs.declared.sign.Sign.TheVariants as signs
use Rattle.planar_check.specs.Components.{greatest}
use Rattle.planar_check.specs.Framings.{FramedDiagram, IsFramed}
use Rattle.planar_check.specs.Places.{crossings_of, item_slots}
use Rattle.planar_check.specs.Planar.{IsPlanar, face_count, planar_refusal, wanted_faces}
use Rattle.planar_check.specs.Tables.{sign_value}
use Rattle.coloured_values.specs.Laws.{blown_up}
use Rattle.coloured_values.specs.Surgery.{HasSurgeryValue, surgery}
use Rattle.coloured_values.proofs.AddedCrossings.{crossings-added}
use Rattle.coloured_values.proofs.BlowUps.{blow_up}
use Rattle.diagram_moves.specs.declared.fault.MoveFault.{MoveFault}
use Rattle.diagram_moves.specs.declared.fault.MoveFault.TheVariants as faults
use Rattle.diagram_moves.specs.Rewriting.{fresh}
use Rattle.diagram_moves.specs.Scripts.{applied, judged, kept_planar}
use Rattle.diagram_moves.specs.Steps.{Answer, Moved}
use Rattle.script_reader.specs.declared.step.Step.TheVariants.{BlowUp}
use Rattle.move_script.specs.FramedMoves.{applied_framed, framings_after, with_framings}

abbrev with_loop : List Item → Moved
with_loop items = record { items = items ++ item.Loop (fresh items) ∷ []; factor = record { curl = pos 0; circle = 1 } }

abbrev refused_by : List (List ℕ) → Option PlanarFault
refused_by lists = cond (face_count lists == wanted_faces lists) None (Some (planes.NotPlanar (face_count lists) (wanted_faces lists)))

still_planar : (items : List Item) (n : ℕ) → IsPlanar item_slots items → planar_refusal item_slots (items ++ item.Loop n ∷ []) ≡ None
still_planar items n is =
    ap refused_by (crossings-added items n)
    ∙ ap (λ b. cond b None (Some (planes.NotPlanar (face_count (crossings_of items)) (wanted_faces (crossings_of items))))) (eq-eqb _ _ is)

pub blown_is : (items : List Item) (sign : Sign) → length items < 256 → IsPlanar item_slots items → applied items (BlowUp sign) ≡ Ok (with_loop items)
blown_is items sign room is =
    let more = length-append items (item.Loop (fresh items) ∷ []) in
    let few : ltb 256 (length (items ++ item.Loop (fresh items) ∷ [])) ≡ false = le-ltb 256 _ (omega (arith, more, room)) in
    ap (λ b. judged (cond {A = Answer} b (Err (faults.TooMany 256)) (Ok (with_loop items)))) few
    ∙ ap (kept_planar (with_loop items)) (still_planar items (fresh items) is)

pub blown_framed : (framed : FramedDiagram) (sign : Sign) → length framed.items < 256 → IsPlanar item_slots framed.items → applied_framed framed (BlowUp sign) ≡ Ok (blown_up framed (fresh framed.items) (sign_value sign))
blown_framed framed sign room is = ap (with_framings (framings_after framed (BlowUp sign))) (blown_is framed.items sign room is)

one_or_less : (sign : Sign) → (sign_value sign ≡ pos 1) ⊎ (sign_value sign ≡ negsuc 0)
one_or_less signs.Plus = inl refl
one_or_less signs.Minus = inr refl

-- A BLOW-UP KEEPS THE SURGERY VALUE
pub surgery_kept : (p : Parameters) (framed : FramedDiagram) (sign : Sign) → IsDiagram framed.items → IsFramed framed → greatest (labels item_labels framed.items) ≤ 1999000 →
    HasSurgeryValue p (blown_up framed (fresh framed.items) (sign_value sign)) → surgery p (blown_up framed (fresh framed.items) (sign_value sign)) ≡ surgery p framed
surgery_kept p framed sign is framings low has =
    blow_up p framed (fresh framed.items) (sign_value sign) (one_or_less sign) is framings.count (record { past = omega arith; high = omega (arith, low) }) has

-- what a blow-up answers is its result, or want of memory
pub blown_only : (framed : FramedDiagram) (sign : Sign) → length framed.items < 256 → IsPlanar item_slots framed.items → (blown : FramedDiagram) → applied_framed framed (BlowUp sign) ≡ Ok blown →
    blown ≡ blown_up framed (fresh framed.items) (sign_value sign)
blown_only framed sign room is blown h =
    let one : FramedDiagram = blown_up framed (fresh framed.items) (sign_value sign) in
    let e : ◌≡◌ {A = Result FramedDiagram MoveFault} (Ok blown) (Ok one) = sym h ∙ blown_framed framed sign room is in cc

pub never_refused : (framed : FramedDiagram) (sign : Sign) → length framed.items < 256 → IsPlanar item_slots framed.items → (fault : MoveFault) → applied_framed framed (BlowUp sign) ≡ Err fault → ⊥
never_refused framed sign room is fault h =
    let one : FramedDiagram = blown_up framed (fresh framed.items) (sign_value sign) in
    absurd (let e : ◌≡◌ {A = Result FramedDiagram MoveFault} (Err fault) (Ok one) = sym h ∙ blown_framed framed sign room is in cc)
