-- What an accepted script is made of: each step was accepted, and each diagram has a value.
use Rattle.std.proofs.Common.{◌≡◌, ◌⊎◌, inl, inr, ℕ, ◌+◌, false, List, [], ◌∷◌, Option, Some, None, Result, Ok, Err, refl, sym, ap, ◌∙◌}
use Rattle.root_quantum.specs.Parameters.{Parameters}
use Rattle.planar_check.specs.declared.fault.PlanarFault.{PlanarFault}
use Rattle.planar_check.specs.Places.{item_slots}
use Rattle.planar_check.specs.Planar.{planar_refusal}
use Rattle.script_reader.specs.declared.step.Step.{Step}
use Rattle.script_reader.specs.declared.step.Step.TheVariants.{R2, R2Undo, R3, Curl, CurlUndo, BlowUp, Slide}
use Rattle.script_reader.specs.Steps.{is_slide}
use Rattle.diagram_moves.specs.Scripts.{judged, kept_planar}
use Rattle.diagram_moves.specs.Steps.{Answer, Moved, of_plane}
use Rattle.wrt_values.specs.declared.fault.ValueRefusal.{ValueRefusal}
use Rattle.wrt_values.specs.declared.value.Value.{Value}
use Rattle.script_values.specs.declared.drawing.Drawing.{Drawing}
use Rattle.script_values.specs.declared.fault.ScriptRefusal.{ScriptRefusal}
use Rattle.script_values.specs.declared.fault.ScriptRefusal.TheVariants.{Step as StepRefused}
use Rattle.script_values.specs.Drawings.{made, value_in}
use Rattle.script_values.specs.Scripts.{after, behind, stepped, drawings, at_line, values, script_values}
use Rattle.script_values.specs.declared.step_fault.StepFault.{StepFault}
use Rattle.script_lines.proofs.ToldRefusals.{IsRefused}

-- ---- results of stages
pub after_Ok : {A B : Type 0} (first : Result A ScriptRefusal) (next : A → Result B ScriptRefusal) (all : B) → after first next ≡ Ok all → (value : A) × (first ≡ Ok value) × (next value ≡ Ok all)
after_Ok (Ok value) next all h = (value, refl, h)
after_Ok (Err refusal) next all h = absurd (cc)

pub behind_Ok : {A : Type 0} (first : A) (rest : Result (List A) ScriptRefusal) (all : List A) → behind first rest ≡ Ok all → (others : List A) × (rest ≡ Ok others) × (all ≡ first ∷ others)
behind_Ok first (Ok others) all h = (others, refl, (let e : ◌≡◌ {A = Result _ ScriptRefusal} (Ok (first ∷ others)) (Ok all) = h in cc))
behind_Ok first (Err refusal) all h = absurd (cc)

-- ---- a step
kept_is : (made moved : Moved) (fault : Option PlanarFault) → kept_planar made fault ≡ Ok moved → made ≡ moved
kept_is made moved None h = let e : ◌≡◌ {A = Answer} (Ok made) (Ok moved) = h in cc
kept_is made moved (Some fault) h = let e : ◌≡◌ {A = Answer} (Err (of_plane fault)) (Ok moved) = h in absurd (cc)

pub judged_is : (answer : Answer) (moved : Moved) → judged answer ≡ Ok moved → answer ≡ Ok moved
judged_is (Err fault) moved h = let e : ◌≡◌ {A = Answer} (Err fault) (Ok moved) = h in absurd (cc)
judged_is (Ok made) moved h = ap Ok (kept_is made moved (planar_refusal item_slots made.items) h)

-- a step whose refusal is told doesn't go on
pub told_stops : (k : ℕ) (last next : Drawing) (fault : StepFault) → IsRefused fault → stepped k last (Err fault) ≡ Ok next → ⊥
told_stops k last next fault told h =
    let e : ◌≡◌ {A = Result Drawing ScriptRefusal} (Err (StepRefused k told.0)) (Ok next) = sym (ap (λ f. stepped k last (Err f)) told.1) ∙ h in absurd (cc)

-- a step is a slide, or none
pub slide_or_move : (step : Step) → (is_slide step ≡ false) ⊎ ((edge : ℕ) × (along : ℕ) × (step ≡ Slide edge along))
slide_or_move (R2 over under) = inl refl
slide_or_move (R2Undo first second) = inl refl
slide_or_move (R3 first second third) = inl refl
slide_or_move (Curl edge sign) = inl refl
slide_or_move (CurlUndo crossing) = inl refl
slide_or_move (BlowUp sign) = inl refl
slide_or_move (Slide edge along) = inr (edge, along, refl)

-- ---- the whole
pub script_of : (p : Parameters) (first : Drawing) (steps : List Step) (lines : List ℕ) → script_values p first steps ≡ Ok lines →
    (all : List Drawing) × (drawings 1 first steps ≡ Ok all) × (values p 0 all ≡ Ok lines)
script_of p first steps lines h = after_Ok (drawings 1 first steps) (values p 0) lines h

-- ---- a line
pub line_is : (d residue : ℕ) (found : Result Value ValueRefusal) → at_line d found ≡ Ok residue → (value : Value) × (found ≡ Ok value) × (value.residue ≡ residue)
line_is d residue (Ok value) h = (value, refl, (let e : ◌≡◌ {A = Result ℕ ScriptRefusal} (Ok value.residue) (Ok residue) = h in cc))
line_is d residue (Err reason) h = absurd (cc)

-- The first line, and the others.
pub record FirstLine (p : Parameters) (d : ℕ) (drawing : Drawing) (rest : List Drawing) (lines : List ℕ) : Type 0 where
  pub value : Value
  pub has : value_in p drawing ≡ Ok value
  pub others : List ℕ
  pub have : values p (d + 1) rest ≡ Ok others
  pub is : lines ≡ value.residue ∷ others

pub first_line : (p : Parameters) (d : ℕ) (drawing : Drawing) (rest : List Drawing) (lines : List ℕ) → values p d (drawing ∷ rest) ≡ Ok lines → FirstLine p d drawing rest lines
first_line p d drawing rest lines h =
    let a = after_Ok (at_line d (value_in p drawing)) (λ residue. behind residue (values p (d + 1) rest)) lines h in
    let b = line_is d a.0 (value_in p drawing) a.1 in
    let c = behind_Ok a.0 (values p (d + 1) rest) lines a.2 in
    record { value = b.0; has = b.1; others = c.0; have = c.1; is = c.2 ∙ ap (λ r. r ∷ c.0) (sym b.2) }

pub no_lines : (p : Parameters) (d : ℕ) (lines : List ℕ) → values p d [] ≡ Ok lines → lines ≡ []
no_lines p d lines h = let e : ◌≡◌ {A = Result (List ℕ) ScriptRefusal} (Ok []) (Ok lines) = h in cc
