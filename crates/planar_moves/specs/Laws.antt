-- The laws of moves and planarity, for lists of items whose crossings have four slots and whose labels stand twice.
use Rattle.std.specs.Prelude.{◌≡◌, ◌↔◌, ℕ, ◌==◌, true, false, List, Ok, Err}
use Rattle.std.specs.Set.{is_member}
use Rattle.pd_reader.specs.declared.item.Item.{Item}
use Rattle.planar_check.specs.Places.{item_slots}
use Rattle.planar_check.specs.Planar.{IsPlanar}
use Rattle.planar_check.specs.declared.sign.Sign.{Sign}
use Rattle.script_reader.specs.declared.step.Step.{Step}
use Rattle.script_reader.specs.declared.step.Step.TheVariants.{R2, R2Undo, R3, Curl, CurlUndo, BlowUp}
use Rattle.diagram_moves.specs.declared.fault.MoveFault.TheVariants.{NotPlanar}
use Rattle.diagram_moves.specs.Laws.{IsPairedDiagram}
use Rattle.diagram_moves.specs.Moves.{move}
use Rattle.diagram_moves.specs.Rewriting.{crossing_labels}
use Rattle.diagram_moves.specs.Scripts.{applied}
use Rattle.diagram_moves.specs.Steps.{Moved}

-- An edge pushed over another keeps a diagram planar, and makes none planar.
abbrev pub PushPlanarLaw : Type 0
PushPlanarLaw =
    (items : List Item) (e f : ℕ) (moved : Moved) → IsPairedDiagram items → move items (R2 e f) ≡ Ok moved → IsPlanar item_slots items ↔ IsPlanar item_slots moved.items

-- A curl on an edge keeps a diagram planar, and makes none planar.
abbrev pub CurlPlanarLaw : Type 0
CurlPlanarLaw =
    (items : List Item) (e : ℕ) (sign : Sign) (moved : Moved) → IsPairedDiagram items → is_member ◌==◌ (crossing_labels items) e ≡ true →
    move items (Curl e sign) ≡ Ok moved → IsPlanar item_slots items ↔ IsPlanar item_slots moved.items

-- So does a curl on a Loop.
abbrev pub CurlOnLoopPlanarLaw : Type 0
CurlOnLoopPlanarLaw =
    (items : List Item) (e : ℕ) (sign : Sign) (moved : Moved) → IsPairedDiagram items → is_member ◌==◌ (crossing_labels items) e ≡ false →
    move items (Curl e sign) ≡ Ok moved → IsPlanar item_slots items ↔ IsPlanar item_slots moved.items

-- A Loop more keeps a diagram planar, and makes none planar.
abbrev pub BlowUpPlanarLaw : Type 0
BlowUpPlanarLaw = (items : List Item) (sign : Sign) (moved : Moved) → move items (BlowUp sign) ≡ Ok moved → IsPlanar item_slots items ↔ IsPlanar item_slots moved.items

-- A strand slid over a crossing keeps a diagram planar, and makes none planar.
abbrev pub SlidePlanarLaw : Type 0
SlidePlanarLaw =
    (items : List Item) (c d f : ℕ) (moved : Moved) → IsPairedDiagram items → move items (R3 c d f) ≡ Ok moved → IsPlanar item_slots items ↔ IsPlanar item_slots moved.items

-- Two edges taken apart, and a curl that is undone, keep a diagram planar.
abbrev pub PullPlanarLaw : Type 0
PullPlanarLaw =
    (items : List Item) (c d : ℕ) (moved : Moved) → IsPairedDiagram items → IsPlanar item_slots items → move items (R2Undo c d) ≡ Ok moved → IsPlanar item_slots moved.items

abbrev pub CurlUndoPlanarLaw : Type 0
CurlUndoPlanarLaw =
    (items : List Item) (c : ℕ) (moved : Moved) → IsPairedDiagram items → IsPlanar item_slots items → move items (CurlUndo c) ≡ Ok moved → IsPlanar item_slots moved.items

-- The result of every accepted step on a planar diagram is planar.
abbrev pub MovesPlanarLaw : Type 0
MovesPlanarLaw =
    (items : List Item) (step : Step) (moved : Moved) → IsPairedDiagram items → IsPlanar item_slots items → move items step ≡ Ok moved → IsPlanar item_slots moved.items

-- So a step on a planar diagram gives what the move gives: that its result has to be planar changes nothing.
abbrev pub NeverRefusedLaw : Type 0
NeverRefusedLaw = (items : List Item) (step : Step) → IsPairedDiagram items → IsPlanar item_slots items → applied items step ≡ move items step

-- And the refusal `NotPlanar` never comes.
abbrev pub AlwaysPlanarLaw : Type 0
AlwaysPlanarLaw =
    (items : List Item) (step : Step) (faces wanted : ℕ) → IsPairedDiagram items → IsPlanar item_slots items → applied items step ≡ Err (NotPlanar faces wanted) → ⊥
