-- What a diagram comes to, where a step of its report stops: the plane, the order of its crossings, its value.
use Rattle.std.proofs.Common.{◌≡◌, ◌∙◌, ℕ, List, Result, Ok, refl, sym, ap, subst}
use Rattle.root_quantum.specs.Parameters.{Parameters}
use Rattle.pd_reader.specs.declared.item.Item.{Item}
use Rattle.frontier_laws.specs.Orders.{View}
use Rattle.wrt_values.specs.Values.{bracket_value, Fails}
use Rattle.wrt_values.specs.declared.fault.ValueFault.{ValueFault}
use Rattle.wrt_values.specs.declared.fault.ValueFault.TheVariants as values
use Rattle.wrt_values.specs.declared.fault.ValueRefusal.{ValueRefusal}
use Rattle.wrt_values.specs.declared.value.Value.{Value}
use Rattle.wrt_request.specs.declared.request.Sweep.{Sweep}
use Rattle.wrt_commands.specs.declared.refusal.Refusal.{Refusal}
use Rattle.wrt_commands.specs.declared.refusal.Refusal.TheVariants.{Value as ValueRefused}
use Rattle.wrt_commands.specs.declared.stop.Stop.{Stop}
use Rattle.wrt_commands.specs.DiagramReports.{planar, item_order, diagram_report}
use Rattle.wrt_commands.specs.Reports.{value_report}
use Rattle.wrt_request.specs.Stages.{after}
use Rattle.wrt_commands.specs.Stops.{refused_as, Is, Stops, stop_of_value}
use Rattle.wrt_commands.proofs.StageLemmas.{ends}

-- ---- the steps behind a value, an order and a plane
abbrev pub with_value : Sweep → Value → Result (List ℕ) Refusal
with_value sweep value = Ok (value_report sweep.turns value)

abbrev pub with_order : Parameters → Sweep → List Item → (View → ℕ) → Result (List ℕ) Refusal
with_order p sweep items next = after (refused_as ValueRefused (bracket_value next p items)) (with_value sweep)

abbrev pub with_plane : Parameters → Sweep → List Item → Result (List ℕ) Refusal
with_plane p sweep items = after (item_order sweep.order items) (with_order p sweep items)

-- ---- stops
-- a value that is refused, or for which there was no memory
pub value_stopped : {A : Type 0} (found : Result Value ValueRefusal) (next : Value → Result A Refusal) (fault : ValueFault) → Fails found fault
    → Stops (Is (after (refused_as ValueRefused found) next)) (stop_of_value fault)
value_stopped found next (values.Refused refusal) h = rw h refl
value_stopped found next values.Memory h = tt

module _ (p : Parameters) (sweep : Sweep) (items flat : List Item) (is_flat : planar items ≡ Ok flat) where
  behind_plane : diagram_report p sweep items ≡ after (item_order sweep.order flat) (with_order p sweep flat)
  behind_plane = ap (λ plane. after plane (with_plane p sweep)) is_flat

  -- the list of the order is refused
  pub order_stops : (seen : List Item) → seen ≡ flat → (of stop : Stop) → stop ≡ of → Stops (Is (item_order sweep.order seen)) of → Stops (Is (diagram_report p sweep items)) stop
  order_stops seen same of stop told h =
      let P : List Item → Type 0 = λ is. Stops (Is (item_order sweep.order is)) of in
      let Q : Result (List ℕ) Refusal → Type 0 = λ report. Stops (Is report) stop in
      subst Q (sym behind_plane) (ends (item_order sweep.order flat) (with_order p sweep flat) of stop told (subst P same h))

  -- the value is
  pub value_stops : (seen : List Item) → seen ≡ flat → (next : View → ℕ) → item_order sweep.order seen ≡ Ok next → (fault : ValueFault) (stop : Stop) → stop ≡ stop_of_value fault
      → Fails (bracket_value next p flat) fault → Stops (Is (diagram_report p sweep items)) stop
  value_stops seen same next ordered fault stop told h =
      let Q : Result (List ℕ) Refusal → Type 0 = λ report. Stops (Is report) stop in
      let T : Stop → Type 0 = λ s. Stops (Is (with_order p sweep flat next)) s in
      let of_flat : item_order sweep.order flat ≡ Ok next = ap (item_order sweep.order) (sym same) ∙ ordered in
      let e = behind_plane ∙ ap (λ order. after order (with_order p sweep flat)) of_flat in
      subst Q (sym e) (subst T (sym told) (value_stopped (bracket_value next p flat) (with_value sweep) fault h))
