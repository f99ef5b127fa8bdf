-- Surgery values of framed diagrams, or the first reason against one. (Lickorish, ch. 13; the turns and the refusals are this
-- project's own.)
--
--     colouring_count p diagram       there are more than 65,536 colourings, or there are not
--     inertia_range diagram           the elimination of the linking matrix leaves 128 bits, or it doesn't
--     delta_inverses p diagram        the projectors that the colours of the form need
--     kirby_turns next p diagram      the turns of all colourings, whose nodes are taken as `next` says, or the first limit
--     omega_inverses p diagram        the inverses of Omega+ and Omega- that the linking matrix wants
--     surgery_value next p diagram    the surgery value with these turns, or the first refusal in this order
use Rattle.std.specs.Prelude.{ℕ, ◌==◌, nat_lt, if◌then◌else◌, Option, Some, None, List, Result, Ok, Err}
use Rattle.std.specs.Result.{result_and}
use Rattle.state_sums.specs.Networks.{Node}
use Rattle.inertia_laws.specs.Fractions.{gcd}
use Rattle.inertia_laws.specs.Range.{first_leaving}
use Rattle.root_quantum.specs.Parameters.{Parameters}
use Rattle.root_quantum.specs.Colours.{greatest_colour}
use Rattle.planar_check.specs.Framings.{FramedDiagram}
use Rattle.planar_check.specs.declared.sign.Sign.{Sign}
use Rattle.planar_check.specs.declared.sign.Sign.TheVariants.{Plus, Minus}
use Rattle.frontier_laws.specs.FunctionOrders.{nodes_by, first_limit}
use Rattle.frontier_laws.specs.Orders.{View}
use Rattle.frontier_laws.specs.Turns.{turns_of}
use Rattle.coloured_values.specs.Surgery.{matrix_of, component_count, plus_count, minus_count, surgery}
use Rattle.kirby_terms.specs.Normalisations.{omega_of}
use Rattle.kirby_terms.specs.Terms.{network_at, colouring_total}
use Rattle.colour_share.specs.ResultSums.{result_sum}
use Rattle.colour_share.specs.declared.limits.TheConstants.{MOST_COLOURINGS}
use Rattle.wrt_values.specs.Inverses.{inverses}
use Rattle.wrt_values.specs.Values.{refusal_at}
use Rattle.wrt_values.specs.declared.fault.ValueRefusal.{ValueRefusal}
use Rattle.wrt_values.specs.declared.fault.ValueRefusal.TheVariants.{TooMany, Inertia, NoOmegaInverse}
use Rattle.wrt_values.specs.declared.value.Value.{Value}

-- The number of colourings.
abbrev pub colouring_count : Parameters → FramedDiagram → Result (Unit {0}) ValueRefusal
colouring_count p diagram = if nat_lt MOST_COLOURINGS (colouring_total p diagram) then Err (TooMany (component_count diagram)) else Ok tt

-- The step in which the elimination leaves 128 bits.
abbrev pub against_step : Option ℕ → Result (Unit {0}) ValueRefusal
against_step None = Ok tt
against_step (Some step) = Err (Inertia step)

abbrev pub inertia_range : FramedDiagram → Result (Unit {0}) ValueRefusal
inertia_range diagram = against_step (first_leaving (component_count diagram) (matrix_of diagram))

-- Without a component no projector is needed.
abbrev pub delta_inverses : Parameters → FramedDiagram → Result (Unit {0}) ValueRefusal
delta_inverses p diagram = if component_count diagram == 0 then Ok tt else inverses p (greatest_colour p)

-- The turns that the nodes of a colouring take, or the first limit.
abbrev pub turns_by_limit : List Node → ℕ → Option ℕ → Result ℕ ValueRefusal
turns_by_limit nodes colouring None = Ok (turns_of nodes)
turns_by_limit nodes colouring (Some k) = Err (refusal_at nodes colouring k)

abbrev pub limited_turns : List Node → ℕ → Result ℕ ValueRefusal
limited_turns nodes colouring = turns_by_limit nodes colouring (first_limit nodes)

abbrev pub kirby_turns : (View → ℕ) → Parameters → FramedDiagram → Result ℕ ValueRefusal
kirby_turns next p diagram = result_sum (λ index. limited_turns (nodes_by next (network_at p diagram index)) index) (colouring_total p diagram)

-- The inverse of an Omega whose count is above 0.
abbrev pub omega_inverse : Parameters → Sign → ℕ → Result (Unit {0}) ValueRefusal
omega_inverse p sign count =
    let common = gcd (omega_of p sign) p.modulus in if count == 0 then Ok tt else if common == 1 then Ok tt else Err (NoOmegaInverse sign common)

abbrev pub omega_inverses : Parameters → FramedDiagram → Result (Unit {0}) ValueRefusal
omega_inverses p diagram = result_and (omega_inverse p Plus (plus_count diagram)) (omega_inverse p Minus (minus_count diagram))

-- The residue with its turns, where these come to no limit and the inverses exist.
abbrev pub valued : ℕ → Result ℕ ValueRefusal → Result (Unit {0}) ValueRefusal → Result Value ValueRefusal
valued residue (Ok turns) exist = result_and exist (Ok (record { residue = residue; turns = turns }))
valued residue (Err refusal) exist = Err refusal

-- The surgery value, or the first reason against it.
abbrev pub surgery_value : (View → ℕ) → Parameters → FramedDiagram → Result Value ValueRefusal
surgery_value next p diagram =
    result_and (colouring_count p diagram)
    (result_and (inertia_range diagram) (result_and (delta_inverses p diagram) (valued (surgery p diagram) (kirby_turns next p diagram) (omega_inverses p diagram))))
