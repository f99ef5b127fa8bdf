-- The lines of a script without framings.
use Rattle.std.proofs.Common.{◌≡◌, ◌∙◌, inl, inr, ℕ, zero, suc, ◌+◌, ◌*◌, ◌%◌, ◌<◌, List, [], ◌∷◌, length, map, slice_index_or, Result, Ok, Err, refl, sym, ap, ap₂, subst, arith, add-one}
use Rattle.root_quantum.specs.Parameters.{Parameters}
use Rattle.pd_reader.specs.declared.item.Item.{Item}
use Rattle.diagram_brackets.specs.Brackets.{bracket}
use Rattle.script_reader.specs.declared.step.Step.{Step}
use Rattle.script_reader.specs.declared.step.Step.TheVariants.{Slide}
use Rattle.frontier_laws.specs.Orders.{listed_of}
use Rattle.diagram_moves.specs.Scripts.{applied, going_on, behind as played_behind, played}
use Rattle.diagram_moves.specs.Steps.{Answer, Moved}
use Rattle.move_results.specs.Laws.{AreLines}
use Rattle.move_results.proofs.ScriptLines.{script_lines}
use Rattle.wrt_values.proofs.OneResidue.{one_residue_law}
use Rattle.script_values.specs.declared.drawing.Drawing.{Drawing}
use Rattle.script_values.specs.declared.drawing.Drawing.TheVariants.{Plain}
use Rattle.script_values.specs.declared.fault.ScriptRefusal.{ScriptRefusal}
use Rattle.script_values.specs.declared.fault.ScriptRefusal.TheVariants.{Step as StepRefused}
use Rattle.script_values.specs.declared.step_refusal.StepRefusal.TheVariants.{SlideNeedsFramings}
use Rattle.script_values.specs.Drawings.{made, plain_of}
use Rattle.script_values.specs.Refusals.{fault_of_move}
use Rattle.script_values.proofs.Moves.{plain_move}
use Rattle.script_values.specs.Scripts.{behind, stepped, drawings, values}
use Rattle.script_lines.specs.Laws.{factors, BracketLinesLaw}
use Rattle.script_lines.proofs.Accepted.{after_Ok, behind_Ok, slide_or_move, told_stops, script_of, first_line, no_lines}
use Rattle.script_lines.proofs.ToldRefusals.{Tells, refusals_are_told}

-- ---- the diagrams are those of the steps' results
abbrev diagrams : List Item → List Moved → List (List Item)
diagrams items results = items ∷ map (λ moved. moved.items) results

step_of : (k : ℕ) (last next : Drawing) (answer : Answer) → Tells answer → stepped k last (plain_of answer) ≡ Ok next → (moved : Moved) × (answer ≡ Ok moved) × (next ≡ Plain moved.items)
step_of k last next (Ok moved) told h = (moved, refl, (let e : ◌≡◌ {A = Result Drawing ScriptRefusal} (Ok (Plain moved.items)) (Ok next) = h in cc))
step_of k last next (Err fault) told h = absurd (told_stops k last next (fault_of_move fault) told h)

-- a slide is refused
moved_is : (k : ℕ) (items : List Item) (step : Step) (next : Drawing) → stepped k (Plain items) (made (Plain items) step) ≡ Ok next → stepped k (Plain items) (plain_of (applied items step)) ≡ Ok next
moved_is k items step next h = elim (slide_or_move step) [
  | inl other ↦ sym (ap (stepped k (Plain items)) (plain_move items step other)) ∙ h
  | inr slide ↦ absurd (slide_stops slide.0 slide.1 (ap (λ s. stepped k (Plain items) (made (Plain items) s)) (sym slide.2) ∙ h))
]
  where
    slide_stops : (e f : ℕ) → stepped k (Plain items) (made (Plain items) (Slide e f)) ≡ Ok next → ⊥
    slide_stops e f h = let e : ◌≡◌ {A = Result Drawing ScriptRefusal} (Err (StepRefused k SlideNeedsFramings)) (Ok next) = h in absurd (cc)

pub record ArePlayed (k : ℕ) (items : List Item) (steps : List Step) (all : List Drawing) : Type 0 where
  pub results : List Moved
  pub are_results : played k items steps ≡ Ok results
  pub are_all : all ≡ map Plain (diagrams items results)
  pub count : length results ≡ length steps

are_played : (k : ℕ) (items : List Item) (steps : List Step) (all : List Drawing) → drawings k (Plain items) steps ≡ Ok all → ArePlayed k items steps all
are_played k items [] all h =
    let e : ◌≡◌ {A = Result (List Drawing) ScriptRefusal} (Ok (Plain items ∷ [])) (Ok all) = h in record { results = []; are_results = refl; are_all = cc; count = refl }
are_played k items (step ∷ steps) all h =
    let a = after_Ok (stepped k (Plain items) (made (Plain items) step)) (λ next. behind (Plain items) (drawings (k + 1) next steps)) all h in
    let b = step_of k (Plain items) a.0 (applied items step) (refusals_are_told items step) (moved_is k items step a.0 a.1) in
    let c = behind_Ok (Plain items) (drawings (k + 1) a.0 steps) all a.2 in
    let moved = b.0 in
    let rest = are_played (k + 1) moved.items steps c.0 (ap (λ next. drawings (k + 1) next steps) (sym b.2) ∙ c.1) in
    record {
      results = moved ∷ rest.results;
      are_results = ap (λ answer. going_on k answer (λ m. played_behind m (played (k + 1) m.items steps))) b.1 ∙ ap (played_behind moved) rest.are_results;
      are_all = c.2 ∙ ap (λ others. Plain items ∷ others) rest.are_all;
      count = ap suc rest.count;
    }

-- ---- their lines are brackets
are_brackets : (p : Parameters) (d : ℕ) (all : List (List Item)) (lines : List ℕ) → values p d (map Plain all) ≡ Ok lines → lines ≡ map (bracket p) all
are_brackets p d [] lines h = no_lines p d lines h
are_brackets p d (items ∷ all) lines h =
    let a = first_line p d (Plain items) (map Plain all) lines h in
    a.is ∙ ap₂ (λ r rs. r ∷ rs) (one_residue_law listed_of p items a.value a.has) (are_brackets p (d + 1) all a.others a.have)

-- ---- each is the factor times the one before
abbrev brackets : Parameters → List Item → List Moved → List ℕ
brackets p items results = map (bracket p) (diagrams items results)

multiplied : (p : Parameters) (items : List Item) (results : List Moved) → AreLines p items results → (k : ℕ) → k < length results →
    slice_index_or (brackets p items results) (suc k) 0 ≡ slice_index_or (factors p results) k 0 * slice_index_or (brackets p items results) k 0 % p.modulus
multiplied p items [] h k low = absurd (omega (arith, low))
multiplied p items (moved ∷ results) h zero low = h.0
multiplied p items (moved ∷ results) h (suc k) low = multiplied p moved.items results h.1 k (omega (arith, low))

-- EACH LINE IS A BRACKET, AND ITS STEP'S FACTOR TIMES THE ONE BEFORE
pub bracket_lines_law : BracketLinesLaw
bracket_lines_law p items steps lines paired h =
    let whole = script_of p (Plain items) steps lines h in
    let seen = are_played 1 items steps whole.0 whole.1 in
    let is = are_brackets p 0 (diagrams items seen.results) lines (ap (values p 0) (sym seen.are_all) ∙ whole.2) in
    let follow = script_lines p 1 items steps seen.results paired seen.are_results in
    record {
      results = seen.results;
      are_results = seen.are_results;
      brackets = is;
      multiplied = λ k low.
          let next = multiplied p items seen.results follow k (let n = seen.count in omega (arith, low, n)) in
          let F : List ℕ → Type 0 = λ ls. slice_index_or ls (k + 1) 0 ≡ slice_index_or (factors p seen.results) k 0 * slice_index_or ls k 0 % p.modulus in
          subst F (sym is) (ap (λ j. slice_index_or (brackets p items seen.results) j 0) (add-one k) ∙ next);
    }
