-- The lines of a script with framings.
use Rattle.std.proofs.Common.{◌≡◌, ◌⊎◌, inl, inr, ◌∙◌, ℕ, ◌+◌, ℤ, List, [], ◌∷◌, length, map, slice_index_or, Result, Ok, Err, refl, sym, ap, ap₂, subst, arith, add-one}
use Rattle.std.specs.List.{AllByRecursion}
use Rattle.root_quantum.specs.Parameters.{Parameters}
use Rattle.pd_reader.specs.declared.item.Item.{Item}
use Rattle.pd_reader.specs.Diagrams.{IsDiagram}
use Rattle.planar_check.specs.declared.sign.Sign.{Sign}
use Rattle.planar_check.specs.Framings.{FramedDiagram}
use Rattle.planar_check.specs.Tables.{sign_value}
use Rattle.coloured_values.specs.Laws.{blown_up}
use Rattle.coloured_values.specs.Surgery.{HasSurgeryValue, surgery}
use Rattle.frontier_laws.specs.Orders.{listed_of}
use Rattle.script_reader.specs.declared.step.Step.{Step}
use Rattle.script_reader.specs.declared.step.Step.TheVariants.{BlowUp, Slide}
use Rattle.diagram_moves.specs.Laws.{IsPairedDiagram}
use Rattle.diagram_moves.specs.Moves.{move}
use Rattle.diagram_moves.specs.Rewriting.{fresh}
use Rattle.diagram_moves.specs.Scripts.{applied}
use Rattle.diagram_moves.specs.Steps.{Answer, Moved}
use Rattle.diagram_moves.proofs.Results as results
use Rattle.move_results.proofs.ComponentLaws.{components_kept}
use Rattle.move_results.proofs.DiagramResults.{diagram_again, greatest_grows}
use Rattle.move_script.specs.FramedMoves.{framings_after, with_framings}
use Rattle.move_script.proofs.BlownUp.{surgery_kept}
use Rattle.move_script.proofs.FramingsKept.{framed_after}
use Rattle.slide_laws.specs.declared.fault.SlideFault.{SlideFault}
use Rattle.slide_laws.specs.Slides.{SlidDiagram, slid}
use Rattle.slide_laws.proofs.SlidDiagram.{slid_framed}
use Rattle.script_values.specs.declared.drawing.Drawing.{Drawing}
use Rattle.script_values.specs.declared.drawing.Drawing.TheVariants.{Framed}
use Rattle.script_values.specs.declared.fault.ScriptRefusal.{ScriptRefusal}
use Rattle.script_values.specs.Drawings.{framed_of, made, slid_of}
use Rattle.script_values.specs.Refusals.{fault_of_move, fault_of_slide}
use Rattle.script_values.proofs.Moves.{framed_move}
use Rattle.script_values.specs.Scripts.{stepped, values}
use Rattle.script_lines.specs.Laws.{IsFramedStart, SurgeryLinesLaw}
use Rattle.script_lines.proofs.Accepted.{judged_is, slide_or_move, told_stops, script_of, first_line, no_lines}
use Rattle.script_lines.proofs.ToldRefusals.{Tells, TellsSlide, refusals_are_told, slides_are_told}
use Rattle.script_lines.proofs.Following.{Follow, are_following, at_step}
use Rattle.script_lines.proofs.ValuesExist.{value_exists}

-- ---- a step with framings: a move, or a slide
pub record IsMoved (framed : FramedDiagram) (step : Step) (next : FramedDiagram) : Type 0 where
  pub moved : Moved
  pub is_moved : move framed.items step ≡ Ok moved
  pub is : next ≡ record { items = moved.items; framings = framings_after framed step }

pub record IsSlid (framed : FramedDiagram) (step : Step) (next : FramedDiagram) : Type 0 where
  pub edge : ℕ
  pub along : ℕ
  pub is_slide : step ≡ Slide edge along
  pub result : SlidDiagram
  pub given : slid framed edge along ≡ Ok result
  pub is : next ≡ result.framed

abbrev pub IsStep : FramedDiagram → Step → FramedDiagram → Type 0
IsStep framed step next = IsMoved framed step next ⊎ IsSlid framed step next

step_of : (k : ℕ) (last next : Drawing) (framings : List ℤ) (answer : Answer) → Tells answer → stepped k last (framed_of (with_framings framings answer)) ≡ Ok next →
    (moved : Moved) × (answer ≡ Ok moved) × (next ≡ Framed record { items = moved.items; framings = framings })
step_of k last next framings (Ok moved) told h =
    let made : FramedDiagram = record { items = moved.items; framings = framings } in (moved, refl, (let e : ◌≡◌ {A = Result Drawing ScriptRefusal} (Ok (Framed made)) (Ok next) = h in cc))
step_of k last next framings (Err fault) told h = absurd (told_stops k last next (fault_of_move fault) told h)

slide_of : (k : ℕ) (last next : Drawing) (answer : Result SlidDiagram SlideFault) → TellsSlide answer → stepped k last (slid_of answer) ≡ Ok next →
    (result : SlidDiagram) × (answer ≡ Ok result) × (next ≡ Framed result.framed)
slide_of k last next (Ok result) told h = (result, refl, (let e : ◌≡◌ {A = Result Drawing ScriptRefusal} (Ok (Framed result.framed)) (Ok next) = h in cc))
slide_of k last next (Err fault) told h = absurd (told_stops k last next (fault_of_slide fault) told h)

step_given : (k : ℕ) (framed : FramedDiagram) (step : Step) (next : Drawing) → stepped k (Framed framed) (made (Framed framed) step) ≡ Ok next →
    (after : FramedDiagram) × IsStep framed step after × (next ≡ Framed after)
step_given k framed step next h = elim (slide_or_move step) [
  | inl other ↦ (
      let framings = framings_after framed step in
      let b = step_of k (Framed framed) next framings (applied framed.items step) (refusals_are_told framed.items step) (sym (ap (stepped k (Framed framed)) (framed_move framed step other)) ∙ h) in
      let moved = b.0 in
      let after : FramedDiagram = record { items = moved.items; framings = framings } in
      (after, inl record { moved = moved; is_moved = judged_is (move framed.items step) moved b.1; is = refl }, b.2))
  | inr slide ↦ (
      let e = slide.0 in let f = slide.1 in
      let b = slide_of k (Framed framed) next (slid framed e f) (slides_are_told framed e f) (sym (ap (λ s. stepped k (Framed framed) (made (Framed framed) s)) slide.2) ∙ h) in
      let result = b.0 in
      (result.framed, inr record { edge = e; along = f; is_slide = slide.2; result = result; given = b.1; is = refl }, b.2))
]

-- ---- their lines are surgery values, which exist
are_values : (p : Parameters) (d : ℕ) (all : List FramedDiagram) (lines : List ℕ) → values p d (map Framed all) ≡ Ok lines → (lines ≡ map (surgery p) all) × AllByRecursion (HasSurgeryValue p) all
are_values p d [] lines h = (no_lines p d lines h, tt)
are_values p d (framed ∷ all) lines h =
    let a = first_line p d (Framed framed) (map Framed all) lines h in
    let b = value_exists listed_of p framed a.value a.has in
    let rest = are_values p (d + 1) all a.others a.have in
    (a.is ∙ ap₂ (λ r rs. r ∷ rs) b.0 rest.0, (b.1, rest.1))

-- ---- what a step keeps
paired : (items : List Item) → IsDiagram items → IsPairedDiagram items
paired items is = record { sizes = is.sizes; twice = is.twice }

start_again : (framed next : FramedDiagram) (step : Step) (steps : List Step) → IsFramedStart framed (step ∷ steps) → IsStep framed step next → IsFramedStart next steps
start_again framed next step steps start (inr made) =
    let result = made.result in
    let room = start.room in
    let again = slid_framed framed made.edge made.along result start.diagram start.framings (omega (arith, room)) made.given in
    let grows = again.top in
    subst (λ (f : FramedDiagram). IsFramedStart f steps) (sym made.is) (record { diagram = again.diagram; framings = again.framings; room = omega (arith, room, grows) })
start_again framed next step steps start (inl made) =
    let pd = paired framed.items start.diagram in
    let moved = made.moved in
    let room = start.room in
    let grows = greatest_grows framed.items step moved pd made.is_moved in
    let again : FramedDiagram = record { items = moved.items; framings = framings_after framed step } in
    subst (λ (f : FramedDiagram). IsFramedStart f steps) (sym made.is)
    (record {
      diagram = diagram_again framed.items step moved start.diagram (omega (arith, room)) made.is_moved;
      framings = framed_after framed step moved.items (framings_after framed step) start.framings (components_kept framed.items step moved pd made.is_moved) refl;
      room = omega (arith, room, grows);
    })

-- ---- a blow-up repeats the line before
blown_is : (framed next : FramedDiagram) (sign : Sign) → IsStep framed (BlowUp sign) next → next ≡ blown_up framed (fresh framed.items) (sign_value sign)
blown_is framed next sign (inr made) = absurd (let e = made.is_slide in cc)
blown_is framed next sign (inl made) =
    made.is ∙ ap (λ (items : List Item). record { items = items; framings = framings_after framed (BlowUp sign) }) (results.blown_up framed.items sign made.moved made.is_moved)

kept : (p : Parameters) (framed next : FramedDiagram) (sign : Sign) (steps : List Step) → IsFramedStart framed (BlowUp sign ∷ steps) → IsStep framed (BlowUp sign) next → HasSurgeryValue p next → surgery p next ≡ surgery p framed
kept p framed next sign steps start made has =
    let is = blown_is framed next sign made in
    let room = start.room in
    ap (surgery p) is ∙ surgery_kept p framed sign start.diagram start.framings (omega (arith, room)) (subst (HasSurgeryValue p) is has)

-- EACH LINE IS A SURGERY VALUE, AND A BLOW-UP REPEATS THE ONE BEFORE
pub surgery_lines_law : SurgeryLinesLaw
surgery_lines_law p framed steps lines start h =
    let whole = script_of p (Framed framed) steps lines h in
    let seen = are_following IsStep (λ diagram. Framed diagram) step_given 1 framed steps whole.0 whole.1 in
    let valued = are_values p 0 seen.diagrams lines (ap (values p 0) (sym seen.are_all) ∙ whole.2) in
    record {
      diagrams = seen.diagrams;
      are_diagrams = whole.1 ∙ ap Ok seen.are_all;
      values = valued.0;
      repeated = λ before behind sign is.
          let S : List Step → Type 0 = λ s. IsFramedStart framed s in
          let W : List Step → Type 0 = λ s. Follow IsStep framed s seen.diagrams in
          let at = at_step IsStep IsFramedStart start_again (surgery p) (HasSurgeryValue p) framed before behind (BlowUp sign) seen.diagrams (subst S is start) (subst W is seen.follow) valued.1 in
          let F : List ℕ → Type 0 = λ ls. slice_index_or ls (length before + 1) 0 ≡ slice_index_or ls (length before) 0 in
          subst F (sym valued.0)
          (ap (λ j. slice_index_or (map (surgery p) seen.diagrams) j 0) (add-one (length before))
          ∙ at.next_value
          ∙ kept p at.last at.next sign behind at.starts at.is_step at.next_has
          ∙ sym at.last_value);
    }
