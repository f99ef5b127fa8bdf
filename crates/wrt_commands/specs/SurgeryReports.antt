-- What a framed diagram comes to: the plane, the framings, the list of the order, the refusals of its surgery value, and the report of
-- the value. (This project's own; made of the definitions of the layers below.)
--
--     framed_report p sweep framed            the report of a framed diagram, or the first refusal
--     surgery_report p sweep framings items   the report of a diagram with these framings, or the first refusal
--
-- No worker and no thread is named: the report is the same for all of them.
use Rattle.std.specs.Prelude.{ℕ, ℤ, List, Result, Ok}
use Rattle.root_quantum.specs.Parameters.{Parameters}
use Rattle.pd_reader.specs.declared.item.Item.{Item}
use Rattle.planar_check.specs.Framings.{FramedDiagram}
use Rattle.wrt_values.specs.Surgery.{surgery_value}
use Rattle.wrt_request.specs.Stages.{after}
use Rattle.wrt_request.specs.declared.request.Sweep.{Sweep}
use Rattle.wrt_commands.specs.declared.refusal.Refusal.{Refusal}
use Rattle.wrt_commands.specs.declared.refusal.Refusal.TheVariants.{Value as ValueRefused}
use Rattle.wrt_commands.specs.DiagramReports.{planar, item_order}
use Rattle.wrt_commands.specs.FramingFits.{fit_framings}
use Rattle.wrt_commands.specs.Reports.{value_report}
use Rattle.wrt_commands.specs.Stops.{refused_as}

-- What a framed diagram comes to.
abbrev pub framed_report : Parameters → Sweep → FramedDiagram → Result (List ℕ) Refusal
framed_report p sweep framed =
    after (item_order sweep.order framed.items) (λ next. after (refused_as ValueRefused (surgery_value next p framed)) (λ value.
    Ok (value_report sweep.turns value)))

-- What a diagram with these framings comes to.
abbrev pub surgery_report : Parameters → Sweep → List ℤ → List Item → Result (List ℕ) Refusal
surgery_report p sweep framings items = after (planar items) (λ flat. after (fit_framings flat framings) (framed_report p sweep))
