-- What the coloured value becomes where a move is made with a diagram whose components have colours. (Kauffman and Lins; Lickorish, ch. 13.)
--
--     HasValueOf items colours after            at all parameters at which the colours have their projectors, both have one coloured value
--     HasTwistOf items colours edge moved       there the value of the result is mu_n to the power of its curl times the value, modulo m, n being the
--                                               colour of the component of this edge
--     ValueFollows items colours step moved     the one behind Reidemeister's second and third moves, the other behind a curl that comes or goes;
--                                               all edges at a curl's crossing are on one component, so its first one tells it
use Rattle.std.specs.Prelude.{◌≡◌, ℕ, ◌*◌, ◌%◌, List, Some}
use Rattle.std.specs.List.{AllByRecursion}
use Rattle.root_quantum.specs.Parameters.{Parameters}
use Rattle.root_quantum.specs.QuantumNumbers.{twist}
use Rattle.pd_reader.specs.declared.item.Item.{Item}
use Rattle.cables.specs.Nets.{HasProjector}
use Rattle.coloured_values.specs.Coloured.{colour_of, coloured}
use Rattle.coloured_values.specs.Laws.{HasColours}
use Rattle.script_reader.specs.declared.step.Step.{Step}
use Rattle.script_reader.specs.declared.step.Step.TheVariants.{R2, R2Undo, R3, Curl, CurlUndo, BlowUp, Slide}
use Rattle.diagram_moves.specs.Rewriting.{slot, crossing_at}
use Rattle.diagram_moves.specs.Steps.{Moved}

abbrev pub HasValueOf : List Item → List ℕ → List Item → Type 0
HasValueOf items colours after = (p : Parameters) → HasColours items colours → AllByRecursion (HasProjector p) colours → coloured p after colours ≡ coloured p items colours

abbrev pub HasTwistOf : List Item → List ℕ → ℕ → Moved → Type 0
HasTwistOf items colours edge moved =
    (p : Parameters) → HasColours items colours → AllByRecursion (HasProjector p) colours → coloured p moved.items colours ≡ twist p (colour_of items colours edge) moved.factor.curl * coloured p items colours % p.modulus

abbrev pub ValueFollows : List Item → List ℕ → Step → Moved → Type 0
ValueFollows items colours (R2 over under) moved = HasValueOf items colours moved.items
ValueFollows items colours (R2Undo first second) moved = HasValueOf items colours moved.items
ValueFollows items colours (R3 first second third) moved = HasValueOf items colours moved.items
ValueFollows items colours (Curl edge sign) moved = HasTwistOf items colours edge moved
ValueFollows items colours (CurlUndo crossing) moved = (here : List ℕ) → crossing_at items crossing ≡ Some here → HasTwistOf items colours (slot here 0) moved
ValueFollows items colours (BlowUp sign) moved = Unit {0}
ValueFollows items colours (Slide edge along) moved = Unit {0}
