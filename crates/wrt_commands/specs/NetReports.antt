-- What a net whose labels have colours comes to: the plane, the colours, the list of the order, the inverses of the quantum numbers,
-- the limits of the sums, and the report of the value. (This project's own; made of the definitions of the layers below.)
--
--     planar_net items                    the items of a net, where they are planar, or their refusal
--     net_order order items               how the order takes the items that have places, where its list names each once, or the refusal
--     fit_labels p items colours          the list has a colour for each label, none above the top colour, that fits the items
--     fitted_net_report p sweep colours items  the report of a planar net whose colours fit, or the first refusal
--     net_report p sweep colours items         the report of a net, or the first refusal
use Rattle.std.specs.Prelude.{ℕ, Bool, true, false, count_by, List, Result, Ok}
use Rattle.root_quantum.specs.Parameters.{Parameters, top_colour}
use Rattle.pd_reader.specs.declared.item.NetItem.{NetItem}
use Rattle.pd_reader.specs.declared.item.NetItem.TheVariants.{X, Y, Loop}
use Rattle.planar_check.specs.Places.{net_item_slots}
use Rattle.frontier_laws.specs.Orders.{View}
use Rattle.skein_network.specs.Refusals.{net_refusal}
use Rattle.wrt_values.specs.Coloured.{net_value}
use Rattle.wrt_request.specs.Stages.{after}
use Rattle.wrt_request.specs.declared.order.OrderWord.{OrderWord}
use Rattle.wrt_request.specs.declared.request.Sweep.{Sweep}
use Rattle.wrt_commands.specs.declared.refusal.Refusal.{Refusal}
use Rattle.wrt_commands.specs.declared.refusal.Refusal.TheVariants.{Value as ValueRefused}
use Rattle.wrt_commands.specs.ColourFits.{fits}
use Rattle.wrt_commands.specs.DiagramReports.{planar_by, order_of_items}
use Rattle.wrt_commands.specs.Reports.{value_report}
use Rattle.wrt_commands.specs.Stops.{refused_as}

-- The items of a net, where they are planar.
abbrev pub planar_net : List NetItem → Result (List NetItem) Refusal
planar_net = planar_by net_item_slots

-- The item has places: it is a crossing or a vertex.
abbrev pub has_places : NetItem → Bool
has_places (X slots) = true
has_places (Y edges) = true
has_places (Loop label) = false

-- How the order takes the items that have places.
abbrev pub net_order : OrderWord → List NetItem → Result (View → ℕ) Refusal
net_order order items = order_of_items order (count_by has_places items)

-- A colour for each label of a net, none above the top colour, that no crossing changes, admissible at each vertex.
abbrev pub fit_labels : Parameters → List NetItem → List ℕ → Result (Unit {0}) Refusal
fit_labels p items colours = fits (net_refusal (top_colour p) items colours)

-- What a planar net comes to, whose colours fit.
abbrev pub fitted_net_report : Parameters → Sweep → List ℕ → List NetItem → Result (List ℕ) Refusal
fitted_net_report p sweep colours items =
    after (net_order sweep.order items) (λ next. after (refused_as ValueRefused (net_value next p items colours)) (λ value.
    Ok (value_report sweep.turns value)))

-- What a net comes to.
abbrev pub net_report : Parameters → Sweep → List ℕ → List NetItem → Result (List ℕ) Refusal
net_report p sweep colours items =
    after (planar_net items) (λ flat. after (fit_labels p flat colours) (λ _. fitted_net_report p sweep colours flat))
