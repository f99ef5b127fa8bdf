-- What a report tells: one comes only where the list of the order is one of the crossings and the sums meet no limit, and then its
-- residue is the value of what the bytes spell, which names no order and no workers.
use Rattle.std.proofs.Common.{◌≡◌, ◌∙◌, ℕ, ℤ, Bool, cond, true, false, List, Option, Some, None, Result, Ok, Err, refl, ap, option_and_then}
use Rattle.pd_reader.specs.declared.item.Item.{Item}
use Rattle.diagram_brackets.specs.Brackets.{bracket}
use Rattle.braid_closures.specs.Closures.{closed}
use Rattle.cables.specs.Nets.{coloured_net}
use Rattle.coloured_values.specs.Coloured.{coloured}
use Rattle.coloured_values.specs.Surgery.{surgery}
use Rattle.planar_check.specs.Framings.{FramedDiagram, first_large}
use Rattle.frontier_laws.specs.Orders.{View}
use Rattle.wrt_values.specs.Coloured.{coloured_value, net_value}
use Rattle.wrt_values.specs.Surgery.{surgery_value}
use Rattle.wrt_values.specs.Values.{bracket_value}
use Rattle.wrt_values.specs.declared.fault.ValueRefusal.{ValueRefusal}
use Rattle.wrt_values.specs.declared.value.Value.{Value}
use Rattle.skein_network.specs.Refusals.{net_colour}
use Rattle.wrt_values.proofs.OneResidue.{one_residue_law, coloured_residue_law, net_residue_law}
use Rattle.tetra_sum.specs.Refusals.{refusal}
use Rattle.tetra_sum.specs.Sums.{weight_sum}
use Rattle.wrt_request.specs.declared.request.Sweep.{Sweep}
use Rattle.wrt_commands.specs.declared.refusal.Refusal.{Refusal}
use Rattle.wrt_commands.specs.declared.refusal.Refusal.TheVariants.{Value as ValueRefused}
use Rattle.wrt_commands.specs.ColourFits.{fit_components}
use Rattle.wrt_commands.specs.ColouredReports.{fitted_report}
use Rattle.wrt_commands.specs.DiagramReports.{item_order}
use Rattle.wrt_commands.specs.FramingFits.{against_size, fit_framings}
use Rattle.wrt_commands.specs.Laws.{IsReportOf, ReportsAreOfBrackets, ReportsAreOfColouredValues, ReportsAreOfNetValues, ReportsAreOfSurgeryValues, ReportsAreOfBraidTraces, ReportsAreOfTetrahedra}
use Rattle.wrt_commands.specs.NetReports.{net_order, fit_labels, fitted_net_report}
use Rattle.wrt_commands.specs.Reports.{report_of}
use Rattle.wrt_commands.specs.TetraOutcomes.{by_refusal}
use Rattle.wrt_commands.specs.TetraRefusals.{refusal_of_sum}
use Rattle.wrt_request.specs.Stages.{after}
use Rattle.wrt_commands.specs.Stops.{refused_as}
use Rattle.wrt_commands.specs.SurgeryReports.{framed_report}
use Rattle.wrt_commands.proofs.DiagramLemmas.{with_value, with_plane}
use Rattle.wrt_commands.proofs.SurgeryLemmas.{surgery_residue_law}

-- ---- the steps of a report
-- a value's
of_value : (sweep : Sweep) (residue : ℕ) (found : Result Value ValueRefusal) (report : List ℕ) → ((value : Value) → found ≡ Ok value → value.residue ≡ residue)
    → after (refused_as ValueRefused found) (with_value sweep) ≡ Ok report → IsReportOf residue report
of_value sweep residue (Ok value) report is h =
    let turns = cond sweep.turns (Some value.turns) None in
    let e : report ≡ report_of value.residue turns = cc in
    (turns, e ∙ ap (λ r. report_of r turns) (is value refl))
of_value sweep residue (Err refusal) report is h = absurd (cc)

-- behind an order
of_order : (sweep : Sweep) (residue : ℕ) (valued : (View → ℕ) → Result Value ValueRefusal) (order : Result (View → ℕ) Refusal) (report : List ℕ)
    → ((next : View → ℕ) (value : Value) → valued next ≡ Ok value → value.residue ≡ residue)
    → after order (λ next. after (refused_as ValueRefused (valued next)) (with_value sweep)) ≡ Ok report → IsReportOf residue report
of_order sweep residue valued (Ok next) report is h = of_value sweep residue (valued next) report (is next) h
of_order sweep residue valued (Err refusal) report is h = absurd (cc)

-- behind colours that fit
of_fit : (fit : Result (Unit {0}) Refusal) (next : Result (List ℕ) Refusal) (report : List ℕ) → after fit (λ _. next) ≡ Ok report → next ≡ Ok report
of_fit (Ok _) next report h = h
of_fit (Err refusal) next report h = absurd (cc)

-- behind a plane
of_plane : {I : Type 0} (items : List I) (next : List I → Result (List ℕ) Refusal) (flat : Bool) (refusal : Refusal) (report : List ℕ) → after (cond flat (Ok items) (Err refusal)) next ≡ Ok report
    → next items ≡ Ok report
of_plane items next true refusal report h = h
of_plane items next false refusal report h = absurd (cc)

-- ---- one diagram
pub reports_are_of_brackets_law : ReportsAreOfBrackets
reports_are_of_brackets_law p sweep items report h =
    of_order sweep (bracket p items) (λ next. bracket_value next p items) (item_order sweep.order items) report (λ next value is. one_residue_law next p items value is)
    (of_plane items (with_plane p sweep) _ _ report h)

pub reports_are_of_coloured_values_law : ReportsAreOfColouredValues
reports_are_of_coloured_values_law p sweep colours items report h =
    of_order sweep (coloured p items colours) (λ next. coloured_value next p items colours) (item_order sweep.order items) report
    (λ next value is. coloured_residue_law next p items colours value is)
    (of_fit (fit_components p items colours) (fitted_report p sweep colours items) report
    (of_plane items (λ flat. after (fit_components p flat colours) (λ _. fitted_report p sweep colours flat)) _ _ report h))

-- behind framings that fit
of_framings : (items : List Item) (framings : List ℤ) (next : FramedDiagram → Result (List ℕ) Refusal) (report : List ℕ) → after (fit_framings items framings) next ≡ Ok report
    → next (record { items = items; framings = framings }) ≡ Ok report
of_framings items framings next report = counted _ (first_large framings) _
  where
    framed : FramedDiagram
    framed = record { items = items; framings = framings }

    counted : (same : Bool) (found : Option ℕ) (refusal : Refusal) → after (cond same (against_size found framed) (Err refusal)) next ≡ Ok report → next framed ≡ Ok report
    counted true None refusal h = h
    counted true (Some component) refusal h = absurd (cc)
    counted false found refusal h = absurd (cc)

pub reports_are_of_surgery_values_law : ReportsAreOfSurgeryValues
reports_are_of_surgery_values_law p sweep framings items report h =
    let framed : FramedDiagram = record { items = items; framings = framings } in
    of_order sweep (surgery p framed) (λ next. surgery_value next p framed) (item_order sweep.order items) report
    (λ next value is. surgery_residue_law next p framed value is)
    (of_framings items framings (framed_report p sweep) report (of_plane items (λ flat. after (fit_framings flat framings) (framed_report p sweep)) _ _ report h))

-- ---- one net
pub reports_are_of_net_values_law : ReportsAreOfNetValues
reports_are_of_net_values_law p sweep colours items report h =
    of_order sweep (coloured_net p items (net_colour items colours)) (λ next. net_value next p items colours) (net_order sweep.order items) report
    (λ next value is. net_residue_law next p items colours value is)
    (of_fit (fit_labels p items colours) (fitted_net_report p sweep colours items) report
    (of_plane items (λ flat. after (fit_labels p flat colours) (λ _. fitted_net_report p sweep colours flat)) _ _ report h))

-- ---- one braid
pub reports_are_of_braid_traces_law : ReportsAreOfBraidTraces
reports_are_of_braid_traces_law p braid report h =
    let e : report ≡ report_of (bracket p (closed braid)) None = cc in
    (None, e)

-- ---- tetrahedra
summed : (residue : ℕ) (refused : Option Refusal) (report : List ℕ) → by_refusal (report_of residue None) refused ≡ Ok report → IsReportOf residue report
summed residue None report h = let e : report ≡ report_of residue None = cc in (None, e)
summed residue (Some refusal) report h = absurd (cc)

pub reports_are_of_tetrahedra_law : ReportsAreOfTetrahedra
reports_are_of_tetrahedra_law p items report h = summed (weight_sum p items) (option_and_then refusal_of_sum (refusal p items)) report h
