-- Values of diagrams, or the first limit that their sums meet. (This project's own.)
--
--     refusal_at nodes colouring k            the limit that is met after the first k nodes
--     value_of residue nodes colouring        the residue with the turns that these nodes take, or the first limit
--     network_value next p network colouring  the value of a network whose nodes are taken as `next` says
--     bracket_value next p items              the bracket of a diagram
--     Gives defined result                    a call answers so: the definition's value, or its refusal, or want of memory
--
-- At 41, 2, 5 the trefoil has the bracket 10, in 10 turns (proofs/Examples.antt).
use Rattle.std.specs.Prelude.{◌≡◌, ℕ, List, take, Option, Some, None, Result, Ok, Err, if◌then◌else◌}
use Rattle.state_sums.specs.Networks.{Node, Network}
use Rattle.state_sums.specs.StateSums.{value}
use Rattle.root_quantum.specs.Parameters.{Parameters}
use Rattle.root_quantum.specs.QuantumNumbers.{loop_value}
use Rattle.pd_reader.specs.declared.item.Item.{Item}
use Rattle.diagram_brackets.specs.Brackets.{bracket, bracket_network}
use Rattle.frontier_laws.specs.FunctionOrders.{nodes_by, is_wide, first_limit}
use Rattle.frontier_laws.specs.Orders.{View}
use Rattle.frontier_laws.specs.Turns.{open_count, turns_of}
use Rattle.wrt_values.specs.declared.fault.ValueFault.{ValueFault}
use Rattle.wrt_values.specs.declared.fault.ValueFault.TheVariants.{Refused, Memory}
use Rattle.wrt_values.specs.declared.fault.ValueRefusal.{ValueRefusal}
use Rattle.wrt_values.specs.declared.fault.ValueRefusal.TheVariants.{Wide, Table}
use Rattle.wrt_values.specs.declared.value.Value.{Value}

-- The limit that is met after the first k nodes: too many open names come before too many pairings.
abbrev pub refusal_at : List Node → ℕ → ℕ → ValueRefusal
refusal_at nodes colouring k =
    if is_wide nodes k
    then Wide record { colouring = colouring; step = k } (open_count (take k nodes))
    else Table record { colouring = colouring; step = k }

-- The residue with its turns, or the limit of the first step that meets one.
abbrev pub by_limit : ℕ → List Node → ℕ → Option ℕ → Result Value ValueRefusal
by_limit residue nodes colouring None = Ok (record { residue = residue; turns = turns_of nodes })
by_limit residue nodes colouring (Some k) = Err (refusal_at nodes colouring k)

abbrev pub value_of : ℕ → List Node → ℕ → Result Value ValueRefusal
value_of residue nodes colouring = by_limit residue nodes colouring (first_limit nodes)

-- The value of a network of the colouring with this number.
abbrev pub network_value : (View → ℕ) → Parameters → Network → ℕ → Result Value ValueRefusal
network_value next p network colouring = value_of (value p.modulus (loop_value p) network) (nodes_by next network) colouring

-- The bracket of a diagram, all of whose components have colour 1: the only colouring.
abbrev pub bracket_value : (View → ℕ) → Parameters → List Item → Result Value ValueRefusal
bracket_value next p items = value_of (bracket p items) (nodes_by next (bracket_network p items)) 1

-- The definition's refusal, or want of memory.
abbrev pub Fails : {A : Type 0} → Result A ValueRefusal → ValueFault → Type 0
Fails defined (Refused refusal) = defined ≡ Err refusal
Fails defined Memory = Unit {0}

-- The definition's value, or its refusal, or want of memory.
abbrev pub Gives : Result Value ValueRefusal → Result Value ValueFault → Type 0
Gives defined (Ok value) = defined ≡ Ok value
Gives defined (Err fault) = Fails defined fault
