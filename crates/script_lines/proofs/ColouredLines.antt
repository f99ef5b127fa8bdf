-- The lines of a script with colours.
use Rattle.std.proofs.Common.{◌≡◌, ◌∙◌, inl, inr, ℕ, ◌+◌, ◌*◌, ◌%◌, ◌≤◌, true, List, [], ◌∷◌, ◌++◌, length, map, slice_index_or, Option, Some, None, Result, Ok, Err, refl, sym, ap, ap₂, subst, arith, add-one, append-nil}
use Rattle.std.specs.List.{AllByRecursion}
use Rattle.root_quantum.specs.Parameters.{Parameters, top_colour}
use Rattle.root_quantum.specs.QuantumNumbers.{loop_value, twist}
use Rattle.root_quantum.proofs.LawProofs.{delta_first_law}
use Rattle.pd_reader.specs.declared.item.Item.{Item}
use Rattle.pd_reader.specs.declared.item.Item.TheVariants as item
use Rattle.pd_reader.specs.Diagrams.{IsDiagram}
use Rattle.planar_check.specs.declared.sign.Sign.{Sign}
use Rattle.planar_check.specs.Components.{greatest, least_labels}
use Rattle.cables.specs.Nets.{HasProjector}
use Rattle.coloured_values.specs.Coloured.{colour_of}
use Rattle.coloured_values.specs.Laws.{HasColours}
use Rattle.coloured_values.proofs.ColouredLaws.{added_component}
use Rattle.frontier_laws.specs.Orders.{listed_of}
use Rattle.script_reader.specs.declared.step.Step.{Step}
use Rattle.script_reader.specs.declared.step.Step.TheVariants.{R2, R2Undo, R3, Curl, CurlUndo, BlowUp, Slide}
use Rattle.diagram_moves.specs.Anchors.{anchor_inside, unless_anchored}
use Rattle.diagram_moves.specs.Laws.{IsPairedDiagram}
use Rattle.diagram_moves.specs.Moves.{move}
use Rattle.diagram_moves.specs.Rewriting.{slot, crossing_at, fresh}
use Rattle.diagram_moves.specs.Scripts.{applied}
use Rattle.diagram_moves.specs.Steps.{Answer, Moved}
use Rattle.diagram_moves.proofs.Results as results
use Rattle.move_results.proofs.ComponentLaws.{components_kept}
use Rattle.move_results.proofs.DiagramResults.{diagram_again, greatest_grows}
use Rattle.coloured_moves.proofs.ColouredMoves.{coloured_push}
use Rattle.coloured_moves.proofs.ColouredBigons.{coloured_bigon}
use Rattle.coloured_moves.proofs.ColouredSlides.{coloured_slide}
use Rattle.coloured_curls.proofs.AllCurls as all_curls
use Rattle.coloured_curls.proofs.AllUndos as all_undos
use Rattle.skein_network.proofs.ListColours.{not_refused}
use Rattle.wrt_values.specs.Inverses.{inverses}
use Rattle.wrt_values.specs.declared.value.Value.{Value}
use Rattle.wrt_values.specs.Coloured.{coloured_value}
use Rattle.wrt_values.proofs.OneResidue.{coloured_residue_law}
use Rattle.script_values.specs.declared.drawing.Drawing.{Drawing}
use Rattle.script_values.specs.declared.drawing.Drawing.TheVariants.{Coloured}
use Rattle.script_values.specs.declared.fault.ScriptRefusal.{ScriptRefusal}
use Rattle.script_values.specs.declared.fault.ScriptRefusal.TheVariants.{Step as StepRefused}
use Rattle.script_values.specs.declared.step_refusal.StepRefusal.TheVariants as refusals
use Rattle.script_values.specs.Colours.{ColouredDiagram, HasFit, colours_after, with_colours}
use Rattle.script_values.specs.Drawings.{coloured_of, made}
use Rattle.script_values.specs.Refusals.{fault_of_move}
use Rattle.script_values.specs.Scripts.{stepped, values}
use Rattle.script_values.proofs.ColoursKept.{each_below, fit_kept}
use Rattle.script_values.proofs.Moves.{coloured_move}
use Rattle.script_lines.specs.Laws.{ColouredLinesLaw, IsColouredStart, IsTwistedLine, coloured_line, keeps_line}
use Rattle.script_lines.proofs.Accepted.{judged_is, slide_or_move, told_stops, script_of, first_line, no_lines}
use Rattle.script_lines.proofs.Following.{AtStep, Follow, are_following, at_step}
use Rattle.script_lines.proofs.ToldRefusals.{Tells, refusals_are_told}
use Rattle.script_lines.proofs.ValuesExist.{and_Ok, has_projector, have_projectors}

-- ---- a step with colours
pub record IsStep (last : ColouredDiagram) (step : Step) (next : ColouredDiagram) : Type 0 where
  pub moved : Moved
  pub is_moved : move last.items step ≡ Ok moved
  pub free : anchor_inside last.items last.colours step ≡ None
  pub is : next ≡ record { items = moved.items; colours = colours_after last.colours step }

free_is : (anchor : Option ℕ) (answer : Answer) (moved : Moved) → unless_anchored anchor answer ≡ Ok moved → (anchor ≡ None) × (answer ≡ Ok moved)
free_is None answer moved h = (refl, h)
free_is (Some component) (Ok made) moved h = absurd cc
free_is (Some component) (Err fault) moved h = absurd cc

tells_anchored : (anchor : Option ℕ) (answer : Answer) → Tells answer → Tells (unless_anchored anchor answer)
tells_anchored None answer told = told
tells_anchored (Some component) (Ok moved) told = (refusals.AnchorInside component, refl)
tells_anchored (Some component) (Err fault) told = told

step_of : (k : ℕ) (last next : Drawing) (colours : List ℕ) (answer : Answer) → Tells answer → stepped k last (coloured_of (with_colours colours answer)) ≡ Ok next →
    (moved : Moved) × (answer ≡ Ok moved) × (next ≡ Coloured record { items = moved.items; colours = colours })
step_of k last next colours (Ok moved) told h =
    let made : ColouredDiagram = record { items = moved.items; colours = colours } in (moved, refl, (let e : ◌≡◌ {A = Result Drawing ScriptRefusal} (Ok (Coloured made)) (Ok next) = h in cc))
step_of k last next colours (Err fault) told h = absurd (told_stops k last next (fault_of_move fault) told h)

slide_stops : (k : ℕ) (last : ColouredDiagram) (next : Drawing) (e f : ℕ) → stepped k (Coloured last) (made (Coloured last) (Slide e f)) ≡ Ok next → ⊥
slide_stops k last next e f h = let e : ◌≡◌ {A = Result Drawing ScriptRefusal} (Err (StepRefused k refusals.SlideNeedsFramings)) (Ok next) = h in absurd (cc)

step_given : (k : ℕ) (last : ColouredDiagram) (step : Step) (next : Drawing) → stepped k (Coloured last) (made (Coloured last) step) ≡ Ok next →
    (after : ColouredDiagram) × IsStep last step after × (next ≡ Coloured after)
step_given k last step next h = elim (slide_or_move step) [
  | inl other ↦ (
      let colours = colours_after last.colours step in
      let anchor = anchor_inside last.items last.colours step in
      let answer = applied last.items step in
      let b = step_of k (Coloured last) next colours (unless_anchored anchor answer) (tells_anchored anchor answer (refusals_are_told last.items step))
      (sym (ap (stepped k (Coloured last)) (coloured_move last step other)) ∙ h) in
      let moved = b.0 in
      let free = free_is anchor answer moved b.1 in
      let after : ColouredDiagram = record { items = moved.items; colours = colours } in
      (after, record { moved = moved; is_moved = judged_is (move last.items step) moved free.1; free = free.0; is = refl }, b.2))
  | inr slide ↦ absurd (slide_stops k last next slide.0 slide.1 (sym (ap (λ s. stepped k (Coloured last) (made (Coloured last) s)) slide.2) ∙ h))
]

-- ---- their lines are values with colours, whose projectors exist
abbrev HasInverses : Parameters → ColouredDiagram → Type 0
HasInverses p diagram = inverses p (greatest diagram.colours) ≡ Ok tt

inverses_exist : (p : Parameters) (diagram : ColouredDiagram) (value : Value) → coloured_value listed_of p diagram.items diagram.colours ≡ Ok value → HasInverses p diagram
inverses_exist p diagram value h = (and_Ok (inverses p (greatest diagram.colours)) _ value h).0

are_values : (p : Parameters) (d : ℕ) (all : List ColouredDiagram) (lines : List ℕ) → values p d (map (λ diagram. Coloured diagram) all) ≡ Ok lines → (lines ≡ map (coloured_line p) all) × AllByRecursion (HasInverses p) all
are_values p d [] lines h = (no_lines p d lines h, tt)
are_values p d (diagram ∷ all) lines h =
    let a = first_line p d (Coloured diagram) (map (λ other. Coloured other) all) lines h in
    let rest = are_values p (d + 1) all a.others a.have in
    (a.is ∙ ap₂ (λ r rs. r ∷ rs) (coloured_residue_law listed_of p diagram.items diagram.colours a.value a.has) rest.0, (inverses_exist p diagram a.value a.has, rest.1))

-- ---- what a step keeps
paired : (items : List Item) → IsDiagram items → IsPairedDiagram items
paired items is = record { sizes = is.sizes; twice = is.twice }

module _ (p : Parameters) where
  start_again : (last next : ColouredDiagram) (step : Step) (steps : List Step) → IsColouredStart p last (step ∷ steps) → IsStep last step next → IsColouredStart p next steps
  start_again last next step steps start made =
      let pd = paired last.items start.diagram in
      let moved = made.moved in
      let room = start.room in
      let grows = greatest_grows last.items step moved pd made.is_moved in
      subst (λ (diagram : ColouredDiagram). IsColouredStart p diagram steps) (sym made.is)
      (record {
        diagram = diagram_again last.items step moved start.diagram (omega (arith, room)) made.is_moved;
        fit = fit_kept p last.items moved.items last.colours step (components_kept last.items step moved pd made.is_moved) start.fit;
        room = omega (arith, room, grows);
      })

  low_colours : (colours : List ℕ) → greatest colours ≤ 8 → AllByRecursion (λ colour. colour ≤ 8) colours
  low_colours [] low = tt
  low_colours (colour ∷ colours) low = (omega (arith, low), low_colours colours (omega (arith, low)))

  has_colours : (last : ColouredDiagram) → HasFit p last → HasColours last.items last.colours
  has_colours last fit =
      let is = not_refused (top_colour p) (length (least_labels last.items)) last.colours fit in
      let low = is.1 in
      record { count = is.0; few = low_colours last.colours (omega (arith, low)) }

  -- the projectors of the colours that stand after a step exist
  projectors : (colours : List ℕ) → inverses p (greatest colours) ≡ Ok tt → AllByRecursion (HasProjector p) colours
  projectors colours exist = have_projectors p (greatest colours) exist colours (each_below (greatest colours) colours (omega arith))

  one_below : (colours : List ℕ) → 1 ≤ greatest (colours ++ 1 ∷ [])
  one_below [] = omega arith
  one_below (colour ∷ colours) = let rest = one_below colours in omega (arith, rest)

  same_items : (last next : ColouredDiagram) (step : Step) (made : IsStep last step next) → colours_after last.colours step ≡ last.colours → next ≡ record { items = made.moved.items; colours = last.colours }
  same_items last next step made same = made.is ∙ ap (λ (colours : List ℕ). record { items = made.moved.items; colours = colours }) same

  -- a Reidemeister move repeats the line before
  line_kept : (last next : ColouredDiagram) (step : Step) (steps : List Step) → keeps_line step ≡ true → IsColouredStart p last (step ∷ steps) → IsStep last step next → HasInverses p next → coloured_line p next ≡ coloured_line p last
  line_kept last next (R2 e f) steps keeps start made has =
      let room = start.room in
      let is = same_items last next (R2 e f) made (append-nil last.colours) in
      ap (coloured_line p) is ∙ coloured_push p last.items e f made.moved last.colours start.diagram (omega (arith, room)) (has_colours last start.fit) made.is_moved
  line_kept last next (R3 c d f) steps keeps start made has =
      let is = same_items last next (R3 c d f) made (append-nil last.colours) in
      let exist = projectors last.colours (subst (HasInverses p) is has) in
      ap (coloured_line p) is ∙ coloured_slide p last.items c d f made.moved last.colours start.diagram (has_colours last start.fit) exist made.free made.is_moved
  line_kept last next (R2Undo c d) steps keeps start made has =
      let is = same_items last next (R2Undo c d) made (append-nil last.colours) in
      let exist = projectors last.colours (subst (HasInverses p) is has) in
      ap (coloured_line p) is ∙ coloured_bigon p last.items c d made.moved last.colours start.diagram (has_colours last start.fit) exist made.free made.is_moved
  line_kept last next (Curl e sign) steps keeps start made has = absurd cc
  line_kept last next (CurlUndo c) steps keeps start made has = absurd cc
  line_kept last next (BlowUp sign) steps keeps start made has = absurd cc
  line_kept last next (Slide e f) steps keeps start made has = absurd cc

  -- a blow-up multiplies it by delta
  line_multiplied : (last next : ColouredDiagram) (sign : Sign) (steps : List Step) → IsColouredStart p last (BlowUp sign ∷ steps) → IsStep last (BlowUp sign) next → HasInverses p next →
      coloured_line p next ≡ loop_value p * coloured_line p last % p.modulus
  line_multiplied last next sign steps start made has =
      let room = start.room in
      let n = fresh last.items in
      let added : next ≡ record { items = last.items ++ item.Loop n ∷ []; colours = last.colours ++ 1 ∷ [] } =
      made.is ∙ ap (λ (items : List Item). record { items = items; colours = last.colours ++ 1 ∷ [] }) (results.blown_up last.items sign made.moved made.is_moved) in
      let one = has_projector p (greatest (last.colours ++ 1 ∷ [])) (subst (HasInverses p) added has) 1 (one_below last.colours) in
      let turned : coloured_line p last * loop_value p ≡ loop_value p * coloured_line p last = omega arith in
      ap (coloured_line p) added
      ∙ added_component p last.items last.colours n 1 start.diagram (has_colours last start.fit) (omega arith) one record { past = omega arith; high = omega (arith, room) }
      ∙ ap (λ factor. coloured_line p last * factor % p.modulus) (delta_first_law p).1
      ∙ ap (λ product. product % p.modulus) turned

  -- a curl multiplies it by the twist of its component's colour
  line_curled : (last next : ColouredDiagram) (e : ℕ) (sign : Sign) (steps : List Step) → IsColouredStart p last (Curl e sign ∷ steps) → (made : IsStep last (Curl e sign) next) → HasInverses p next →
      coloured_line p next ≡ twist p (colour_of last.items last.colours e) made.moved.factor.curl * coloured_line p last % p.modulus
  line_curled last next e sign steps start made has =
      let room = start.room in
      let is = same_items last next (Curl e sign) made (append-nil last.colours) in
      let exist = projectors last.colours (subst (HasInverses p) is has) in
      ap (coloured_line p) is ∙ all_curls.curl p last.items e sign made.moved last.colours start.diagram (omega (arith, room)) (has_colours last start.fit) exist made.is_moved

  line_uncurled : (last next : ColouredDiagram) (c : ℕ) (here : List ℕ) (steps : List Step) → crossing_at last.items c ≡ Some here → IsColouredStart p last (CurlUndo c ∷ steps) → (made : IsStep last (CurlUndo c) next) → HasInverses p next →
      coloured_line p next ≡ twist p (colour_of last.items last.colours (slot here 0)) made.moved.factor.curl * coloured_line p last % p.modulus
  line_uncurled last next c here steps at start made has =
      let is = same_items last next (CurlUndo c) made (append-nil last.colours) in
      let exist = projectors last.colours (subst (HasInverses p) is has) in
      ap (coloured_line p) is ∙ all_undos.curl_undo p last.items c here made.moved last.colours start.diagram (has_colours last start.fit) exist at made.free made.is_moved

  -- the line behind a step whose value is such a multiple
  twisted_line : (first : ColouredDiagram) (diagrams : List ColouredDiagram) (lines : List ℕ) (k e : ℕ) (step : Step) (steps : List Step) → lines ≡ map (coloured_line p) diagrams →
      (at : AtStep IsStep (IsColouredStart p) start_again (coloured_line p) (HasInverses p) k step steps diagrams) →
      coloured_line p at.next ≡ twist p (colour_of at.last.items at.last.colours e) at.is_step.moved.factor.curl * coloured_line p at.last % p.modulus →
      IsTwistedLine p (slice_index_or diagrams k first) e step (slice_index_or lines k 0) (slice_index_or lines (k + 1) 0)
  twisted_line first diagrams lines k e step steps are at is =
      let turn : ℕ = twist p (colour_of at.last.items at.last.colours e) at.is_step.moved.factor.curl in
      let line : ℕ → ℕ = λ j. slice_index_or (map (coloured_line p) diagrams) j 0 in
      let F : List ℕ → Type 0 = λ ls. slice_index_or ls (k + 1) 0 ≡ turn * slice_index_or ls k 0 % p.modulus in
      let multiplied : F lines = subst F (sym are) (ap line (add-one k) ∙ at.next_value ∙ is ∙ ap (λ n. turn * n % p.modulus) (sym at.last_value)) in
      let G : ColouredDiagram → Type 0 = λ last. IsTwistedLine p last e step (slice_index_or lines k 0) (slice_index_or lines (k + 1) 0) in
      subst G (sym (at.last_is first)) (at.is_step.moved, at.is_step.is_moved, multiplied)

-- EACH LINE IS A VALUE WITH COLOURS; R2, R2UNDO AND R3 REPEAT THE ONE BEFORE, A BLOW-UP MULTIPLIES IT BY DELTA, AND A CURL BY ITS FACTOR
pub coloured_lines_law : ColouredLinesLaw
coloured_lines_law p first steps lines start h =
    let whole = script_of p (Coloured first) steps lines h in
    let seen = are_following IsStep (λ diagram. Coloured diagram) step_given 1 first steps whole.0 whole.1 in
    let valued = are_values p 0 seen.diagrams lines (ap (values p 0) (sym seen.are_all) ∙ whole.2) in
    let S : List Step → Type 0 = λ s. IsColouredStart p first s in
    let W : List Step → Type 0 = λ s. Follow IsStep first s seen.diagrams in
    let line : ℕ → ℕ = λ j. slice_index_or (map (coloured_line p) seen.diagrams) j 0 in
    record {
      diagrams = seen.diagrams;
      are_diagrams = whole.1 ∙ ap Ok seen.are_all;
      values = valued.0;
      repeated = λ before behind step keeps is.
          let at = at_step IsStep (IsColouredStart p) (start_again p) (coloured_line p) (HasInverses p) first before behind step seen.diagrams (subst S is start) (subst W is seen.follow) valued.1 in
          let F : List ℕ → Type 0 = λ ls. slice_index_or ls (length before + 1) 0 ≡ slice_index_or ls (length before) 0 in
          subst F (sym valued.0)
          (ap line (add-one (length before)) ∙ at.next_value ∙ line_kept p at.last at.next step behind keeps at.starts at.is_step at.next_has ∙ sym at.last_value);
      multiplied = λ before behind sign is.
          let at = at_step IsStep (IsColouredStart p) (start_again p) (coloured_line p) (HasInverses p) first before behind (BlowUp sign) seen.diagrams (subst S is start) (subst W is seen.follow) valued.1 in
          let F : List ℕ → Type 0 = λ ls. slice_index_or ls (length before + 1) 0 ≡ loop_value p * slice_index_or ls (length before) 0 % p.modulus in
          subst F (sym valued.0)
          (ap line (add-one (length before))
          ∙ at.next_value
          ∙ line_multiplied p at.last at.next sign behind at.starts at.is_step at.next_has
          ∙ ap (λ n. loop_value p * n % p.modulus) (sym at.last_value));
      curled = λ before behind e sign is.
          let at = at_step IsStep (IsColouredStart p) (start_again p) (coloured_line p) (HasInverses p) first before behind (Curl e sign) seen.diagrams (subst S is start) (subst W is seen.follow) valued.1 in
          twisted_line p first seen.diagrams lines (length before) e (Curl e sign) behind valued.0 at (line_curled p at.last at.next e sign behind at.starts at.is_step at.next_has);
      uncurled = λ before behind c is.
          let at = at_step IsStep (IsColouredStart p) (start_again p) (coloured_line p) (HasInverses p) first before behind (CurlUndo c) seen.diagrams (subst S is start) (subst W is seen.follow) valued.1 in
          λ here there.
          twisted_line p first seen.diagrams lines (length before) (slot here 0) (CurlUndo c) behind valued.0 at
          (line_uncurled p at.last at.next c here behind (ap (λ (last : ColouredDiagram). crossing_at last.items c) (sym (at.last_is first)) ∙ there) at.starts at.is_step at.next_has);
    }
