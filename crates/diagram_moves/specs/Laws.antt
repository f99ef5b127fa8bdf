-- The law of moves: for all parameters, and every list of items whose crossings have four slots and whose labels stand twice; it asks for
-- no planar diagram.
use Rattle.std.specs.Prelude.{◌≡◌, ◌*◌, ◌%◌, List, Ok}
use Rattle.std.specs.List.{AllByRecursion}
use Rattle.root_quantum.specs.Parameters.{Parameters}
use Rattle.pd_reader.specs.declared.item.Item.{Item}
use Rattle.pd_reader.specs.Items.{item_labels, HasItsSlots}
use Rattle.list_lemmas.specs.Times.{times_in}
use Rattle.pd_reader.specs.Diagrams.{labels}
use Rattle.diagram_brackets.specs.Brackets.{bracket}
use Rattle.diagram_moves.specs.Moves.{move}
use Rattle.script_reader.specs.declared.step.Step.{Step}
use Rattle.diagram_moves.specs.Steps.{Moved}
use Rattle.diagram_moves.specs.Values.{factor_value}

-- each crossing has four slots, and each label stands twice
pub record IsPairedDiagram (items : List Item) : Type 0 where
  pub sizes : AllByRecursion HasItsSlots items
  pub twice : AllByRecursion (λ label. times_in (labels item_labels items) label ≡ 2) (labels item_labels items)

-- A move multiplies the bracket by the value of its factor.
abbrev pub PlainMovesLaw : Type 0
PlainMovesLaw =
    (p : Parameters) (items : List Item) (step : Step) (moved : Moved) → IsPairedDiagram items → move items step ≡ Ok moved →
    bracket p moved.items ≡ factor_value p moved.factor * bracket p items % p.modulus
