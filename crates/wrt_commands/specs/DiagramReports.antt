-- What a diagram comes to, as the commands about a bracket report it: the plane, the list of the order, the limits of the sums, and the
-- report of the value. (This project's own; made of the definitions of the layers below.)
--
--     planar_by slots_of items       items with such slots, where they are planar, or their refusal
--     planar items                   the same for a diagram
--     next_by order                  the place that the order takes next
--     order_of_items order count     how the order takes so many items, where its list names each once, or the refusal
--     item_order order items         the same for the crossings of a diagram
--     diagram_report p sweep items   the report of the bracket, or the first refusal
use Rattle.std.specs.Prelude.{ℕ, ◌==◌, Bool, true, false, count_by, List, Result, Ok, Err, if◌then◌else◌}
use Rattle.root_quantum.specs.Parameters.{Parameters}
use Rattle.pd_reader.specs.declared.item.Item.{Item}
use Rattle.pd_reader.specs.declared.item.Item.TheVariants.{X, Loop}
use Rattle.planar_check.specs.Places.{item_slots, slot_lists}
use Rattle.planar_check.specs.Planar.{face_count, wanted_faces}
use Rattle.frontier_laws.specs.Orders.{View, listed_of, greedy_of, given_of}
use Rattle.wrt_values.specs.Values.{bracket_value}
use Rattle.wrt_request.specs.declared.order.OrderWord.{OrderWord}
use Rattle.wrt_request.specs.declared.order.OrderWord.TheVariants.{Listed, Greedy, Given}
use Rattle.wrt_request.specs.declared.request.Sweep.{Sweep}
use Rattle.wrt_commands.specs.declared.arguments_refusal.ArgumentsRefusal.TheVariants.{Order}
use Rattle.wrt_commands.specs.declared.refusal.Refusal.{Refusal}
use Rattle.wrt_commands.specs.declared.refusal.Refusal.TheVariants.{Plane, Arguments, Value as ValueRefused}
use Rattle.wrt_commands.specs.ItemOrders.{is_order_of}
use Rattle.wrt_commands.specs.Reports.{value_report}
use Rattle.wrt_request.specs.Stages.{after}
use Rattle.wrt_commands.specs.Stops.{refused_as}

-- Items, where these slot lists have as many faces as planar ones.
abbrev pub planar_by : {I : Type 0} → (I → List ℕ) → List I → Result (List I) Refusal
planar_by slots_of items =
    let faces = face_count (slot_lists slots_of items) in
    let wanted = wanted_faces (slot_lists slots_of items) in
    if faces == wanted then Ok items else Err (Plane (record { faces = faces; wanted = wanted }))

-- The items of a diagram, where they are planar.
abbrev pub planar : List Item → Result (List Item) Refusal
planar = planar_by item_slots

-- The item is a crossing: it has places.
abbrev pub is_crossing : Item → Bool
is_crossing (X slots) = true
is_crossing (Loop label) = false

-- How many crossings there are.
abbrev pub crossing_count : List Item → ℕ
crossing_count items = count_by is_crossing items

-- The place that the order takes next. The items of a list are the groups of the nodes.
abbrev pub next_by : OrderWord → View → ℕ
next_by Listed = listed_of
next_by Greedy = greedy_of
next_by (Given items) = given_of items

-- How the order takes so many items: a list names each of them once.
abbrev pub order_of_items : OrderWord → ℕ → Result (View → ℕ) Refusal
order_of_items order count = if is_order_of count order then Ok (next_by order) else Err (Arguments (Order count))

-- How the order takes the crossings.
abbrev pub item_order : OrderWord → List Item → Result (View → ℕ) Refusal
item_order order items = order_of_items order (crossing_count items)

-- What a diagram comes to: it is planar, its order is one, its value is within the limits; then its report.
abbrev pub diagram_report : Parameters → Sweep → List Item → Result (List ℕ) Refusal
diagram_report p sweep items =
    after (planar items) (λ flat.
    after (item_order sweep.order flat) (λ next.
    after (refused_as ValueRefused (bracket_value next p flat)) (λ value.
    Ok (value_report sweep.turns value))))
