-- Boxes inside a step. The inner edges of a step are those between the crossings that it takes: both edges of the bigon of `R2Undo`, the
-- three of the triangle of `R3`, the loop of the curl of `CurlUndo`. A step that only adds crossings or loops has none. In a coloured
-- diagram the box of a component stands on its least label, where its colour is at least 2; it lies inside a step where that label is
-- an inner edge. This project's own.
--
--     inner_edges items step                 the labels of the inner edges
--     anchor_inside items colours step       the first component whose box lies inside the step, by its number from 1
--     applied_coloured items colours step    the result of the step, or why it is refused: `AnchorInside` last, with that component
--
-- At X[1,1,2,2] of colour 2 the box of component 1 lies inside `CurlUndo` of crossing 1.
use Rattle.std.specs.Prelude.{ℕ, ◌+◌, ◌&&◌, ◌||◌, nat_le, ◌==◌, if◌then◌else◌, List, [], ◌∷◌, Option, Some, None, Ok, Err}
use Rattle.std.specs.List.{find}
use Rattle.std.specs.Set.{is_member}
use Rattle.pd_reader.specs.declared.item.Item.{Item}
use Rattle.planar_check.specs.Components.{least_labels}
use Rattle.script_reader.specs.declared.step.Step.{Step}
use Rattle.script_reader.specs.declared.step.Step.TheVariants.{R2, R2Undo, R3, Curl, CurlUndo, BlowUp, Slide}
use Rattle.diagram_moves.specs.Moves.{four, slot_pairs, slot_triples, is_bigon, is_triangle, is_curl}
use Rattle.diagram_moves.specs.Rewriting.{slot, crossing_at}
use Rattle.diagram_moves.specs.declared.fault.MoveFault.TheVariants.{AnchorInside}
use Rattle.diagram_moves.specs.Scripts.{applied}
use Rattle.diagram_moves.specs.Steps.{Answer}

-- the labels from what there is, or none
abbrev pub labels_of : {X : Type 0} → Option X → (X → List ℕ) → List ℕ
labels_of None labels = []
labels_of (Some x) labels = labels x

-- The labels of the edges between the crossings that a step takes.
abbrev pub inner_edges : List Item → Step → List ℕ
inner_edges items (R2Undo c d) =
    labels_of (crossing_at items c) (λ here. labels_of (crossing_at items d) (λ there.
    labels_of (find (is_bigon here there) slot_pairs) (λ at. slot here at.0 ∷ slot there (at.1 + 1) ∷ [])))
inner_edges items (R3 c d f) =
    labels_of (crossing_at items c) (λ first. labels_of (crossing_at items d) (λ second. labels_of (crossing_at items f) (λ third.
    labels_of (find (λ at. is_triangle first second third at || is_triangle first third second at) slot_triples) (λ at.
    slot first at.0 ∷ slot first (at.0 + 3) ∷ (if is_triangle first second third at then slot second (at.1.0 + 1) else slot third (at.1.0 + 1)) ∷ []))))
inner_edges items (CurlUndo c) = labels_of (crossing_at items c) (λ here. labels_of (find (is_curl here) four) (λ s. slot here s ∷ []))
inner_edges items (R2 e f) = []
inner_edges items (Curl e sign) = []
inner_edges items (BlowUp sign) = []
inner_edges items (Slide e f) = []

-- The number of the first component of colour at least 2 whose least label is among the edges; the first has the given number.
abbrev pub first_anchor : List ℕ → List ℕ → List ℕ → ℕ → Option ℕ
first_anchor edges (least ∷ leasts) (colour ∷ colours) number =
    if nat_le 2 colour && is_member ◌==◌ edges least then Some number else first_anchor edges leasts colours (number + 1)
first_anchor edges leasts colours number = None

-- The first component whose box lies inside the step.
abbrev pub anchor_inside : List Item → List ℕ → Step → Option ℕ
anchor_inside items colours step = first_anchor (inner_edges items step) (least_labels items) colours 1

-- An accepted step is refused where a box lies inside it.
abbrev pub unless_anchored : Option ℕ → Answer → Answer
unless_anchored None answer = answer
unless_anchored (Some component) (Ok moved) = Err (AnchorInside component)
unless_anchored (Some component) (Err fault) = Err fault

abbrev pub applied_coloured : List Item → List ℕ → Step → Answer
applied_coloured items colours step = unless_anchored (anchor_inside items colours step) (applied items step)
