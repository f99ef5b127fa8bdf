-- What a diagram whose components have colours comes to: the plane, the colours, the list of the order, the inverses of the quantum
-- numbers, the limits of the sums, and the report of the value. (This project's own; made of the definitions of the layers below.)
--
--     fitted_report p sweep colours items      the report of a planar diagram whose colours fit, or the first refusal
--     coloured_report p sweep colours items    the report of a diagram, or the first refusal
use Rattle.std.specs.Prelude.{ℕ, List, Result, Ok}
use Rattle.root_quantum.specs.Parameters.{Parameters}
use Rattle.pd_reader.specs.declared.item.Item.{Item}
use Rattle.wrt_values.specs.Coloured.{coloured_value}
use Rattle.wrt_request.specs.Stages.{after}
use Rattle.wrt_request.specs.declared.request.Sweep.{Sweep}
use Rattle.wrt_commands.specs.declared.refusal.Refusal.{Refusal}
use Rattle.wrt_commands.specs.declared.refusal.Refusal.TheVariants.{Value as ValueRefused}
use Rattle.wrt_commands.specs.ColourFits.{fit_components}
use Rattle.wrt_commands.specs.DiagramReports.{planar, item_order}
use Rattle.wrt_commands.specs.Reports.{value_report}
use Rattle.wrt_commands.specs.Stops.{refused_as}

-- What a planar diagram comes to, whose colours fit.
abbrev pub fitted_report : Parameters → Sweep → List ℕ → List Item → Result (List ℕ) Refusal
fitted_report p sweep colours items =
    after (item_order sweep.order items) (λ next. after (refused_as ValueRefused (coloured_value next p items colours)) (λ value.
    Ok (value_report sweep.turns value)))

-- What a diagram comes to.
abbrev pub coloured_report : Parameters → Sweep → List ℕ → List Item → Result (List ℕ) Refusal
coloured_report p sweep colours items =
    after (planar items) (λ flat. after (fit_components p flat colours) (λ _. fitted_report p sweep colours flat))
