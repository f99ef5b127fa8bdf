-- Whether colours fit a diagram. (This project's own.)
--
--     refusal_of_cable fault         the refusal of the run for this fault of a cable; none for want of memory
--     stop_of_cable fault            the stop for it
--     fits fault                     nothing, where there is no fault; or its refusal
--     fit_components p items colours the list has a colour for each component of the diagram, none above the top colour; or the refusal
use Rattle.std.specs.Prelude.{ℕ, List, length, Option, Some, None, Result, Ok, Err, option_and_then}
use Rattle.root_quantum.specs.Parameters.{Parameters, top_colour}
use Rattle.pd_reader.specs.declared.item.Item.{Item}
use Rattle.planar_check.specs.Components.{least_labels}
use Rattle.skein_network.specs.Refusals.{colour_refusal}
use Rattle.skein_network.specs.declared.fault.CableFault.{CableFault}
use Rattle.skein_network.specs.declared.fault.CableFault.TheVariants as faults
use Rattle.wrt_values.specs.declared.fault.ValueRefusal.TheVariants.{NoInverse}
use Rattle.wrt_commands.specs.declared.arguments_refusal.ArgumentsRefusal.TheVariants.{ColourCount, ColourTooLarge, Unequal, NotAdmissible}
use Rattle.wrt_commands.specs.declared.refusal.Refusal.{Refusal}
use Rattle.wrt_commands.specs.declared.refusal.Refusal.TheVariants.{Arguments, Value}
use Rattle.wrt_commands.specs.declared.stop.Stop.{Stop}
use Rattle.wrt_commands.specs.TextRefusals.{stop_of}

-- The refusal of the run for a fault of a cable.
abbrev pub refusal_of_cable : CableFault → Option Refusal
refusal_of_cable (faults.ColourCount given wanted) = Some (Arguments (ColourCount given wanted))
refusal_of_cable (faults.ColourTooLarge colour limit) = Some (Arguments (ColourTooLarge colour limit))
refusal_of_cable (faults.Unequal edge) = Some (Arguments (Unequal edge))
refusal_of_cable (faults.NotAdmissible vertex) = Some (Arguments (NotAdmissible vertex))
refusal_of_cable (faults.NoInverse index common) = Some (Value (NoInverse index common))
refusal_of_cable faults.Memory = None

-- The stop for such a fault: a refusal, or want of memory.
abbrev pub stop_of_cable : CableFault → Stop
stop_of_cable fault = stop_of (refusal_of_cable fault)

-- No refusal, or one.
abbrev pub against : Option Refusal → Result (Unit {0}) Refusal
against None = Ok tt
against (Some refusal) = Err refusal

-- No fault, or its refusal.
abbrev pub fits : Option CableFault → Result (Unit {0}) Refusal
fits fault = against (option_and_then refusal_of_cable fault)

-- A colour for each component of a diagram, none above the top colour.
abbrev pub fit_components : Parameters → List Item → List ℕ → Result (Unit {0}) Refusal
fit_components p items colours = fits (colour_refusal (top_colour p) (length (least_labels items)) colours)
