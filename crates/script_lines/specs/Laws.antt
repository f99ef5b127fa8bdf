-- The laws of the lines of a script, its residues: line 0 is that of the first diagram, line k that of the result of step k. (Moves and
-- their factors: Lickorish, ch. 3; blow-ups: ch. 12. Scripts and their lines are this project's own.)
--
--     factors p results                          the values of the factors of the steps with these results
--     AreBracketLines p items steps lines        the lines of a script without framings
--     AreSurgeryLines p framed steps lines       the lines of a script with framings
--     AreColouredLines p first steps lines       the lines of a script with colours
--     IsTwistedLine p last edge step line next   a line is the one before it times the factor of a curl
use Rattle.std.specs.Prelude.{◌≡◌, ℕ, ◌+◌, ◌*◌, ◌%◌, ◌<◌, ◌≤◌, Bool, true, false, List, ◌∷◌, ◌++◌, length, map, slice_index, slice_index_or, Some, Ok}
use Rattle.root_quantum.specs.Parameters.{Parameters}
use Rattle.root_quantum.specs.QuantumNumbers.{loop_value, twist}
use Rattle.pd_reader.specs.declared.item.Item.{Item}
use Rattle.pd_reader.specs.Diagrams.{labels, IsDiagram}
use Rattle.pd_reader.specs.Items.{item_labels}
use Rattle.planar_check.specs.declared.sign.Sign.{Sign}
use Rattle.planar_check.specs.Components.{greatest}
use Rattle.planar_check.specs.Framings.{FramedDiagram, IsFramed}
use Rattle.diagram_brackets.specs.Brackets.{bracket}
use Rattle.coloured_values.specs.Coloured.{coloured, colour_of}
use Rattle.coloured_values.specs.Surgery.{surgery}
use Rattle.script_reader.specs.declared.step.Step.{Step}
use Rattle.script_reader.specs.declared.step.Step.TheVariants.{R2, R2Undo, R3, Curl, CurlUndo, BlowUp, Slide}
use Rattle.diagram_moves.specs.Laws.{IsPairedDiagram}
use Rattle.diagram_moves.specs.Moves.{move}
use Rattle.diagram_moves.specs.Rewriting.{slot, crossing_at}
use Rattle.diagram_moves.specs.Scripts.{played}
use Rattle.diagram_moves.specs.Steps.{Moved}
use Rattle.diagram_moves.specs.Values.{factor_value}
use Rattle.move_script.specs.declared.moved.TheConstants.{GREATEST_LABEL}
use Rattle.script_values.specs.declared.drawing.Drawing.TheVariants.{Plain, Framed, Coloured}
use Rattle.script_values.specs.declared.drawing.TheConstants.{NEW_LABELS}
use Rattle.script_values.specs.Colours.{ColouredDiagram, HasFit}
use Rattle.script_values.specs.Scripts.{drawings, script_values}

-- The values of the factors of steps: -A^3 to the power of the curls that came, times delta to the power of the circles.
abbrev pub factors : Parameters → List Moved → List ℕ
factors p results = map (λ moved. factor_value p moved.factor) results

-- Each line is the bracket of its diagram, and each but the first is its step's factor times the one before, modulo m.
pub record AreBracketLines (p : Parameters) (items : List Item) (steps : List Step) (lines : List ℕ) : Type 0 where
  -- what the steps give, each from what the one before gave
  pub results : List Moved
  pub are_results : played 1 items steps ≡ Ok results
  pub brackets : lines ≡ map (bracket p) (items ∷ map (λ moved. moved.items) results)
  pub multiplied : (k : ℕ) → k < length steps → slice_index lines (k + 1) ≡ slice_index (factors p results) k * slice_index lines k % p.modulus

abbrev pub BracketLinesLaw : Type 0
BracketLinesLaw =
    (p : Parameters) (items : List Item) (steps : List Step) (lines : List ℕ) → IsPairedDiagram items → script_values p (Plain items) steps ≡ Ok lines → AreBracketLines p items steps lines

-- Each line is the surgery value of its diagram, and behind a blow-up the line stands again.
pub record AreSurgeryLines (p : Parameters) (framed : FramedDiagram) (steps : List Step) (lines : List ℕ) : Type 0 where
  -- the first diagram and what each step gives
  pub diagrams : List FramedDiagram
  pub are_diagrams : drawings 1 (Framed framed) steps ≡ Ok (map Framed diagrams)
  pub values : lines ≡ map (surgery p) diagrams
  pub repeated : (before behind : List Step) (sign : Sign) → steps ≡ before ++ BlowUp sign ∷ behind → slice_index lines (length before + 1) ≡ slice_index lines (length before)

-- There is room for the labels of all steps.
pub record IsFramedStart (framed : FramedDiagram) (steps : List Step) : Type 0 where
  pub diagram : IsDiagram framed.items
  pub framings : IsFramed framed
  pub room : greatest (labels item_labels framed.items) + NEW_LABELS * length steps ≤ GREATEST_LABEL

abbrev pub SurgeryLinesLaw : Type 0
SurgeryLinesLaw =
    (p : Parameters) (framed : FramedDiagram) (steps : List Step) (lines : List ℕ) → IsFramedStart framed steps → script_values p (Framed framed) steps ≡ Ok lines → AreSurgeryLines p framed steps lines

-- ---- with colours
-- The line of a diagram with colours: its value with these, and its own framing.
abbrev pub coloured_line : Parameters → ColouredDiagram → ℕ
coloured_line p diagram = coloured p diagram.items diagram.colours

-- The steps that repeat the line before: R2, R2Undo and R3.
abbrev pub keeps_line : Step → Bool
keeps_line (R2 over under) = true
keeps_line (R2Undo first second) = true
keeps_line (R3 first second third) = true
keeps_line (Curl edge sign) = false
keeps_line (CurlUndo crossing) = false
keeps_line (BlowUp sign) = false
keeps_line (Slide edge along) = false

-- Behind a step with the last diagram the line before is multiplied by mu_n to the power of the curl of the step's factor, modulo m; n is the colour of the
-- component of this edge of the last diagram.
abbrev pub IsTwistedLine : Parameters → ColouredDiagram → ℕ → Step → ℕ → ℕ → Type 0
IsTwistedLine p last edge step line next =
    (moved : Moved) × (move last.items step ≡ Ok moved) × (next ≡ twist p (colour_of last.items last.colours edge) moved.factor.curl * line % p.modulus)

-- Each line is the value of its diagram with its colours; behind R2, R2Undo and R3 the line stands again, a blow-up multiplies it by delta, and a curl that comes
-- or goes on a component of colour n by mu_n to the power of its factor's curl.
pub record AreColouredLines (p : Parameters) (first : ColouredDiagram) (steps : List Step) (lines : List ℕ) : Type 0 where
  -- the first diagram and what each step gives
  pub diagrams : List ColouredDiagram
  pub are_diagrams : drawings 1 (Coloured first) steps ≡ Ok (map (λ diagram. Coloured diagram) diagrams)
  pub values : lines ≡ map (coloured_line p) diagrams
  pub repeated : (before behind : List Step) (step : Step) → keeps_line step ≡ true → steps ≡ before ++ step ∷ behind → slice_index lines (length before + 1) ≡ slice_index lines (length before)
  pub multiplied : (before behind : List Step) (sign : Sign) → steps ≡ before ++ BlowUp sign ∷ behind → slice_index lines (length before + 1) ≡ loop_value p * slice_index lines (length before) % p.modulus
  -- the curl is made with the diagram behind the steps before it
  pub curled : (before behind : List Step) (e : ℕ) (sign : Sign) → steps ≡ before ++ Curl e sign ∷ behind →
      (let last : ColouredDiagram = slice_index_or diagrams (length before) first in IsTwistedLine p last e (Curl e sign) (slice_index lines (length before)) (slice_index lines (length before + 1)))
  -- and so is its undoing; all edges at its crossing are on one component
  pub uncurled : (before behind : List Step) (c : ℕ) → steps ≡ before ++ CurlUndo c ∷ behind →
      (let last : ColouredDiagram = slice_index_or diagrams (length before) first in (here : List ℕ) → crossing_at last.items c ≡ Some here →
      IsTwistedLine p last (slot here 0) (CurlUndo c) (slice_index lines (length before)) (slice_index lines (length before + 1)))

-- The colours fit, and there is room for the labels of all steps.
pub record IsColouredStart (p : Parameters) (first : ColouredDiagram) (steps : List Step) : Type 0 where
  pub diagram : IsDiagram first.items
  pub fit : HasFit p first
  pub room : greatest (labels item_labels first.items) + NEW_LABELS * length steps ≤ GREATEST_LABEL

abbrev pub ColouredLinesLaw : Type 0
ColouredLinesLaw =
    (p : Parameters) (first : ColouredDiagram) (steps : List Step) (lines : List ℕ) → IsColouredStart p first steps → script_values p (Coloured first) steps ≡ Ok lines → AreColouredLines p first steps lines
