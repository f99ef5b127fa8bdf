-- Refused texts of braids: their statuses and their lines. A place is refused as in any text. (This project's own.)
--
--     refusal_of_braid fault    the refusal of a text for this fault of its reader; none for want of memory
--     stop_of_braid fault       the stop of such a fault
use Rattle.std.specs.Prelude.{ℕ, List, ◌++◌, codes, decimal, Option, Some, None}
use Rattle.braid_trace.specs.declared.braid.TheConstants.{MOST_STRANDS}
use Rattle.braid_trace.specs.declared.fault.BraidFault.{BraidFault}
use Rattle.braid_trace.specs.declared.fault.BraidFault.TheVariants as faults
use Rattle.wrt_commands.specs.declared.braid_refusal.BraidRefusal.{BraidRefusal}
use Rattle.wrt_commands.specs.declared.braid_refusal.BraidRefusal.TheVariants.{Strands, TooMany, Entry}
use Rattle.wrt_commands.specs.declared.refusal.Refusal.{Refusal}
use Rattle.wrt_commands.specs.declared.refusal.Refusal.TheVariants.{Text, Braid}
use Rattle.wrt_commands.specs.declared.status.Status.{Status}
use Rattle.wrt_commands.specs.declared.status.Status.TheVariants as statuses
use Rattle.wrt_commands.specs.declared.stop.Stop.{Stop}
use Rattle.wrt_commands.specs.declared.text_refusal.TextRefusal.TheVariants as texts
use Rattle.wrt_commands.specs.TextRefusals.{stop_of}

abbrev pub refusal_of_braid : BraidFault → Option Refusal
refusal_of_braid (faults.Head at) = Some (Text (texts.Head at))
refusal_of_braid (faults.Number at) = Some (Text (texts.Number at))
refusal_of_braid (faults.Text at) = Some (Text (texts.Text at))
refusal_of_braid (faults.Strands given) = Some (Braid Strands)
refusal_of_braid (faults.TooMany limit) = Some (Braid (TooMany limit))
refusal_of_braid (faults.Entry at strands) = Some (Braid (Entry at strands))
refusal_of_braid faults.Memory = None

abbrev pub stop_of_braid : BraidFault → Stop
stop_of_braid fault = stop_of (refusal_of_braid fault)

abbrev pub status_of_braid : BraidRefusal → Status
status_of_braid Strands = statuses.Limit
status_of_braid (TooMany limit) = statuses.Limit
status_of_braid (Entry at strands) = statuses.Input

abbrev pub text_of_braid : BraidRefusal → List ℕ
text_of_braid Strands = codes "more than " ++ decimal MOST_STRANDS ++ codes " strands"
text_of_braid (TooMany limit) = codes "more than " ++ decimal limit ++ codes " crossings"
text_of_braid (Entry at strands) = codes "entry " ++ (decimal at ++ (codes " is not a crossing of " ++ (decimal strands ++ codes " strands")))
