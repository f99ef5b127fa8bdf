-- The laws of coloured moves.
use Rattle.std.specs.Prelude.{◌==◌, ◌≡◌, ℕ, ◌+◌, ◌-◌, ◌*◌, ◌%◌, ◌<◌, ◌≤◌, true, false, List, length, slice_index, Some, None, Ok}
use Rattle.std.specs.List.{AllByRecursion}
use Rattle.std.specs.Set.{is_member}
use Rattle.root_quantum.specs.Parameters.{Parameters}
use Rattle.root_quantum.specs.QuantumNumbers.{twist}
use Rattle.pd_reader.specs.declared.item.Item.{Item}
use Rattle.pd_reader.specs.Diagrams.{labels, IsDiagram}
use Rattle.pd_reader.specs.Items.{item_labels, HasItsSlots}
use Rattle.planar_check.specs.Components.{least_labels}
use Rattle.planar_check.specs.declared.sign.Sign.{Sign}
use Rattle.cables.specs.Nets.{HasProjector}
use Rattle.diagram_moves.specs.Moves.{move}
use Rattle.diagram_moves.specs.Rewriting.{fresh}
use Rattle.script_reader.specs.declared.step.Step.{Step}
use Rattle.script_reader.specs.declared.step.Step.TheVariants.{R2, R2Undo, R3, Curl}
use Rattle.diagram_moves.specs.Steps.{Moved}
use Rattle.coloured_values.specs.Coloured.{colour_of, is_boxed, coloured}
use Rattle.coloured_values.specs.Laws.{HasColours}
use Rattle.diagram_moves.specs.Anchors.{anchor_inside, inner_edges}

-- R2 keeps the coloured value.
abbrev pub ColouredPushLaw : Type 0
ColouredPushLaw =
    (p : Parameters) (items : List Item) (e f : ℕ) (moved : Moved) (colours : List ℕ) → IsDiagram items → fresh items + 3 ≤ 2000000 → HasColours items colours →
    move items (R2 e f) ≡ Ok moved → coloured p moved.items colours ≡ coloured p items colours

-- R2Undo keeps the coloured value, where no box lies inside the bigon and each colour has its projector.
abbrev pub ColouredUndoLaw : Type 0
ColouredUndoLaw =
    (p : Parameters) (items : List Item) (c d : ℕ) (moved : Moved) (colours : List ℕ) → IsDiagram items → HasColours items colours → AllByRecursion (HasProjector p) colours →
    anchor_inside items colours (R2Undo c d) ≡ None → move items (R2Undo c d) ≡ Ok moved → coloured p moved.items colours ≡ coloured p items colours

-- R3 keeps the coloured value, where no box lies inside the triangle and each colour has its projector.
abbrev pub ColouredSlideLaw : Type 0
ColouredSlideLaw =
    (p : Parameters) (items : List Item) (c d f : ℕ) (moved : Moved) (colours : List ℕ) → IsDiagram items → HasColours items colours → AllByRecursion (HasProjector p) colours →
    anchor_inside items colours (R3 c d f) ≡ None → move items (R3 c d f) ≡ Ok moved → coloured p moved.items colours ≡ coloured p items colours

-- Curl on a component of colour 0 or 1, on an edge or on a Loop, multiplies the coloured value by mu_n to the power of the curl, n being that
-- colour; the other components have any colours.
abbrev pub ColouredCurlLaw : Type 0
ColouredCurlLaw =
    (p : Parameters) (items : List Item) (e : ℕ) (sign : Sign) (moved : Moved) (colours : List ℕ) → IsDiagram items → fresh items + 3 ≤ 2000000 → HasColours items colours →
    colour_of items colours e ≤ 1 → move items (Curl e sign) ≡ Ok moved →
    coloured p moved.items colours ≡ twist p (colour_of items colours e) moved.factor.curl * coloured p items colours % p.modulus

-- Where no box lies inside a step, no inner edge has one.
abbrev pub NoAnchorLaw : Type 0
NoAnchorLaw =
    (items : List Item) (colours : List ℕ) (step : Step) → AllByRecursion HasItsSlots items → length colours ≡ length (least_labels items) → anchor_inside items colours step ≡ None →
    (label : ℕ) → is_member ◌==◌ (inner_edges items step) label ≡ true → is_member ◌==◌ (labels item_labels items) label ≡ true → is_boxed items colours label ≡ false

-- The component that is named has its box inside the step, and none before it has.
pub record IsFirstAnchor (items : List Item) (colours : List ℕ) (step : Step) (number : ℕ) : Type 0 where
  pub within : (1 ≤ number) × (number ≤ length (least_labels items))
  pub tall : 2 ≤ slice_index colours (number - 1)
  pub inside : is_member ◌==◌ (inner_edges items step) (slice_index (least_labels items) (number - 1)) ≡ true
  pub first : (other : ℕ) → 1 ≤ other → other < number → 2 ≤ slice_index colours (other - 1) → is_member ◌==◌ (inner_edges items step) (slice_index (least_labels items) (other - 1)) ≡ false

abbrev pub FirstAnchorLaw : Type 0
FirstAnchorLaw = (items : List Item) (colours : List ℕ) (step : Step) (number : ℕ) → anchor_inside items colours step ≡ Some number → IsFirstAnchor items colours step number
