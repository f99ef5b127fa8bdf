-- The laws of the results of moves, for lists of items whose crossings have four slots and whose labels stand twice: no law asks for a
-- planar diagram.
--
--     added step items        the least labels of the components that the step adds
--     place c s               the number of slot s of crossing c as a place
--     next_of items p         the place that follows the place p in its face
--     AreLines p items results    the bracket of each result is its factor times the one before
use Rattle.std.specs.Prelude.{◌≡◌, ◌≢◌, ◌↔◌, ℕ, ◌+◌, ◌-◌, ◌*◌, ◌%◌, ◌≤◌, List, [], ◌∷◌, ◌++◌, Some, Ok, ◌==◌, ◌&&◌, true, false}
use Rattle.root_quantum.specs.Parameters.{Parameters}
use Rattle.pd_reader.specs.declared.item.Item.{Item}
use Rattle.pd_reader.specs.Diagrams.{IsDiagram}
use Rattle.planar_check.specs.Components.{least_labels}
use Rattle.planar_check.specs.Places.{other_places, crossings_of, slots_after, place_labels}
use Rattle.diagram_brackets.specs.Brackets.{bracket}
use Rattle.diagram_moves.specs.Moves.{move, is_bigon, is_triangle}
use Rattle.diagram_moves.specs.Rewriting.{slot, crossing_at, fresh}
use Rattle.script_reader.specs.declared.step.Step.{Step}
use Rattle.script_reader.specs.declared.step.Step.TheVariants.{R2, R2Undo, R3, Curl, CurlUndo, BlowUp, Slide}
use Rattle.diagram_moves.specs.Steps.{Moved}
use Rattle.diagram_moves.specs.Values.{factor_value}
use Rattle.planar_check.specs.Planar.{next_in_face}
use Rattle.diagram_moves.specs.Scripts.{played}
use Rattle.diagram_moves.specs.Laws.{IsPairedDiagram}

-- In the result each crossing has four slots, and each label stands twice again.
abbrev pub PairedAgainLaw : Type 0
PairedAgainLaw = (items : List Item) (step : Step) (moved : Moved) → IsPairedDiagram items → move items step ≡ Ok moved → IsPairedDiagram moved.items

-- The least label of the component that a step adds: `BlowUp` adds a loop.
abbrev pub added : Step → List Item → List ℕ
added (BlowUp sign) items = fresh items ∷ []
added (R2 e f) items = []
added (R2Undo c d) items = []
added (R3 c d f) items = []
added (Curl e sign) items = []
added (CurlUndo c) items = []
added (Slide e f) items = []

-- The components of the result have the least labels of those before, in the same order, and `BlowUp` adds one at the end.
abbrev pub ComponentsKeptLaw : Type 0
ComponentsKeptLaw =
    (items : List Item) (step : Step) (moved : Moved) → IsPairedDiagram items → move items step ≡ Ok moved →
    least_labels moved.items ≡ least_labels items ++ added step items

-- The number of slot s of crossing c as a place.
abbrev pub place : ℕ → ℕ → ℕ
place c s = 4 * (c - 1) + s % 4

-- The place that follows a place in its face.
abbrev pub next_of : List Item → ℕ → ℕ
next_of items p = next_in_face (slots_after 0 (crossings_of items)) (other_places (place_labels items)) p

-- From slot s of crossing c a face goes on to the slot behind slot t of crossing d exactly where one label stands at both: so
-- the faces of two and of three places are those that the definitions of R2Undo and R3 find by labels.
abbrev pub FaceStepLaw : Type 0
FaceStepLaw =
    (items : List Item) (c d s t : ℕ) (here there : List ℕ) → IsPairedDiagram items → crossing_at items c ≡ Some here → crossing_at items d ≡ Some there →
    place c s ≢ place d t →
    (slot here s ≡ slot there t) ↔ (next_of items (place c s) ≡ place d (t + 1))

-- The result of a move on a diagram is a diagram, where the greatest label leaves room for four more.
abbrev pub DiagramAgainLaw : Type 0
DiagramAgainLaw = (items : List Item) (step : Step) (moved : Moved) → IsDiagram items → fresh items + 3 ≤ 2000000 → move items step ≡ Ok moved → IsDiagram moved.items

-- R2Undo's test finds the faces of exactly two places, one at c and one at d, with one edge over at both places and the other under.
abbrev pub BigonFacesLaw : Type 0
BigonFacesLaw =
    (items : List Item) (c d s t : ℕ) (here there : List ℕ) → IsPairedDiagram items → crossing_at items c ≡ Some here → crossing_at items d ≡ Some there → c ≢ d →
    (is_bigon here there (s, t) ≡ true)
    ↔ ((next_of items (place c s) ≡ place d (t + 1)) × (next_of items (place d (t + 1)) ≡ place c s) × (s % 2 ≡ t % 2))

-- R3's test finds the faces of exactly three places, one at each crossing, in this order, with an edge over at both places.
abbrev pub TriangleFacesLaw : Type 0
TriangleFacesLaw =
    (items : List Item) (c d f s t u : ℕ) (here there beyond : List ℕ) → IsPairedDiagram items → crossing_at items c ≡ Some here → crossing_at items d ≡ Some there → crossing_at items f ≡ Some beyond →
    c ≢ d → d ≢ f → c ≢ f →
    (is_triangle here there beyond (s, (t, u)) ≡ true)
    ↔ ((next_of items (place c s) ≡ place d (t + 1)) × (next_of items (place d (t + 1)) ≡ place f (u + 1)) × (next_of items (place f (u + 1)) ≡ place c s)
    × (((s + 1) % 2 == t % 2 && t % 2 == u % 2) ≡ false))

-- The bracket of each result is its factor times the one before.
abbrev pub AreLines : Parameters → List Item → List Moved → Type 0
AreLines p items [] = Unit {0}
AreLines p items (moved ∷ results) = (bracket p moved.items ≡ factor_value p moved.factor * bracket p items % p.modulus) × AreLines p moved.items results

-- Along a script that no step refuses, the bracket of each result is its factor times the one before.
abbrev pub ScriptLinesLaw : Type 0
ScriptLinesLaw =
    (p : Parameters) (k : ℕ) (items : List Item) (steps : List Step) (results : List Moved) → IsPairedDiagram items → played k items steps ≡ Ok results → AreLines p items results
