-- Items with colours, of a diagram or of a net: what their report comes to where one of its steps stops. The steps are the plane, the
-- fitting of the colours, the order in which the items are taken, and the value. Each step that stops ends what is bound behind it.
use Rattle.std.proofs.Common.{String, Global, ◌≡◌, ◌∙◌, ℕ, Bool, List, Option, Some, None, Result, Ok, refl, sym, ap, subst, string_bytes}
use Rattle.frontier_laws.specs.Orders.{View}
use Rattle.skein_network.specs.declared.fault.CableFault.{CableFault}
use Rattle.wrt_values.specs.Values.{Fails}
use Rattle.wrt_values.specs.declared.fault.ValueFault.{ValueFault}
use Rattle.wrt_values.specs.declared.fault.ValueRefusal.{ValueRefusal}
use Rattle.wrt_values.specs.declared.value.Value.{Value}
use Rattle.wrt_request.specs.Stages.{after}
use Rattle.wrt_commands.specs.declared.refusal.Refusal.{Refusal}
use Rattle.wrt_commands.specs.declared.refusal.Refusal.TheVariants.{Value as ValueRefused}
use Rattle.wrt_commands.specs.declared.stop.Stop.{Stop}
use Rattle.wrt_commands.specs.ColourFits.{refusal_of_cable, stop_of_cable, against, fits}
use Rattle.wrt_commands.specs.Reports.{value_report}
use Rattle.wrt_commands.specs.Stops.{refused_as, Is, Stops, Answers, stop_of_value}
use Rattle.wrt_commands.specs.TextRefusals.{stop_of}
use Rattle.wrt_commands.proofs.DiagramLemmas.{value_stopped}
use Rattle.wrt_commands.proofs.StageLemmas.{ends, goes_on}

-- ---- a fault of the colours
against_stops : (told : Option Refusal) → Stops (Is (against told)) (stop_of told)
against_stops (Some refusal) = refl
against_stops None = tt

pub fault_stops : (found : Option CableFault) (fault : CableFault) (stop : Stop) → found ≡ Some fault → stop ≡ stop_of_cable fault → Stops (Is (fits found)) stop
fault_stops found fault stop is told =
    let P : Option CableFault → Type 0 = λ f. Stops (Is (fits f)) stop in
    let T : Stop → Type 0 = λ s. Stops (Is (fits (Some fault))) s in
    subst P (sym is) (subst T (sym told) (against_stops (refusal_of_cable fault)))

-- ---- behind the colours: the order of the items, and their value
module _ {I : Type 0} (order_of : List I → Result (View → ℕ) Refusal) (value_of : (View → ℕ) → List I → Result Value ValueRefusal) (turns : Bool) (flat : List I) where
  abbrev with_value : Value → Result (List ℕ) Refusal
  with_value value = Ok (value_report turns value)

  abbrev with_order : (View → ℕ) → Result (List ℕ) Refusal
  with_order next = after (refused_as ValueRefused (value_of next flat)) with_value

  -- the list of the order is refused
  pub order_stops : (seen : List I) → seen ≡ flat → (of stop : Stop) → stop ≡ of → Stops (Is (order_of seen)) of → Stops (Is (after (order_of flat) with_order)) stop
  order_stops seen same of stop told h =
      let P : List I → Type 0 = λ is. Stops (Is (order_of is)) of in
      ends (order_of flat) with_order of stop told (subst P same h)

  -- the value is
  pub value_stops : (seen : List I) → seen ≡ flat → (next : View → ℕ) → order_of seen ≡ Ok next → (fault : ValueFault) (stop : Stop) → stop ≡ stop_of_value fault → Fails (value_of next flat) fault
      → Stops (Is (after (order_of flat) with_order)) stop
  value_stops seen same next ordered fault stop told h =
      let Q : Result (List ℕ) Refusal → Type 0 = λ report. Stops (Is report) stop in
      let T : Stop → Type 0 = λ s. Stops (Is (with_order next)) s in
      let of_flat : order_of flat ≡ Ok next = ap order_of (sym same) ∙ ordered in
      subst Q (sym (ap (λ order. after order with_order) of_flat)) (subst T (sym told) (value_stopped (value_of next flat) with_value fault h))

-- ---- behind the plane: the colours, and the rest
module _ {I : Type 0} (plane : Result (List I) Refusal) (fit : List I → Result (Unit {0}) Refusal) (rest : List I → Result (List ℕ) Refusal) (flat : List I) (is_flat : plane ≡ Ok flat) where
  abbrev with_plane : List I → Result (List ℕ) Refusal
  with_plane seen = after (fit seen) (λ _. rest seen)

  abbrev with_colours : Unit {0} → Result (List ℕ) Refusal
  with_colours _ = rest flat

  behind_plane : after plane with_plane ≡ after (fit flat) with_colours
  behind_plane = ap (λ of. after of with_plane) is_flat

  -- the colours don't fit
  pub colours_stop : (of stop : Stop) → stop ≡ of → Stops (Is (fit flat)) of → Stops (Is (after plane with_plane)) stop
  colours_stop of stop told h =
      let Q : Result (List ℕ) Refusal → Type 0 = λ report. Stops (Is report) stop in
      subst Q (sym behind_plane) (ends (fit flat) with_colours of stop told h)

  -- they fit
  pub colours_fit : fit flat ≡ Ok tt → (result : Result (String Global) Stop) → Answers (Is (rest flat)) string_bytes result → Answers (Is (after plane with_plane)) string_bytes result
  colours_fit fits result h =
      let Q : Result (List ℕ) Refusal → Type 0 = λ report. Answers (Is report) string_bytes result in
      subst Q (sym behind_plane) (goes_on (fit flat) with_colours string_bytes tt fits result h)
