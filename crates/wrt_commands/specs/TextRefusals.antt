-- Refused texts: their statuses and their lines. (This project's own.)
--
--     refusal_of_text counted fault    the refusal of a text for this fault of its reader, whose limit is on what is counted;
--                                      none for want of memory
--     text_refusal counted fault       the same, as a refusal of the run
--     counted_in_script limit          what this limit of a script counts: its steps, or the items of its diagram
--     script_text_refusal fault        the refusal of a script's text, as one of the run
--     stop_of refusal                  the stop for the refusal of a text, or for want of memory where there is none
use Rattle.std.specs.Prelude.{ℕ, ◌==◌, List, ◌++◌, codes, decimal, Option, Some, None, if◌then◌else◌, option_map}
use Rattle.pd_reader.specs.declared.fault.TextFault.{TextFault}
use Rattle.pd_reader.specs.declared.fault.TextFault.TheVariants as faults
use Rattle.script_reader.specs.declared.script.TheConstants.{MOST_STEPS}
use Rattle.wrt_commands.specs.declared.status.Status.{Status}
use Rattle.wrt_commands.specs.declared.status.Status.TheVariants as statuses
use Rattle.wrt_commands.specs.declared.text_refusal.Counted.{Counted}
use Rattle.wrt_commands.specs.declared.text_refusal.Counted.TheVariants.{Items, Steps}
use Rattle.wrt_commands.specs.declared.text_refusal.TextRefusal.{TextRefusal}
use Rattle.wrt_commands.specs.declared.text_refusal.TextRefusal.TheVariants.{Head, Number, Text, TooMany, Label}
use Rattle.wrt_commands.specs.declared.refusal.Refusal.{Refusal}
use Rattle.wrt_commands.specs.declared.refusal.Refusal.TheVariants as refusals
use Rattle.wrt_commands.specs.declared.stop.Stop.{Stop}
use Rattle.wrt_commands.specs.declared.stop.Stop.TheVariants.{Refused, Memory}

abbrev pub refusal_of_text : Counted → TextFault → Option TextRefusal
refusal_of_text counted (faults.Head at) = Some (Head at)
refusal_of_text counted (faults.Number at) = Some (Number at)
refusal_of_text counted (faults.Text at) = Some (Text at)
refusal_of_text counted (faults.TooMany limit) = Some (TooMany limit counted)
refusal_of_text counted (faults.Label label count) = Some (Label label count)
refusal_of_text counted faults.Memory = None

abbrev pub status_of_text : TextRefusal → Status
status_of_text (Head at) = statuses.Input
status_of_text (Number at) = statuses.Input
status_of_text (Text at) = statuses.Input
status_of_text (TooMany limit counted) = statuses.Limit
status_of_text (Label label count) = statuses.Input

abbrev pub text_of_counted : Counted → List ℕ
text_of_counted Items = codes "items"
text_of_counted Steps = codes "steps"

abbrev pub text_of_text : TextRefusal → List ℕ
text_of_text (Head at) = codes "head refused at byte " ++ decimal at
text_of_text (Number at) = codes "number refused at byte " ++ decimal at
text_of_text (Text at) = codes "text refused at byte " ++ decimal at
text_of_text (TooMany limit counted) = codes "more than " ++ decimal limit ++ codes " " ++ text_of_counted counted
text_of_text (Label label count) = codes "label " ++ decimal label ++ codes " stands " ++ decimal count ++ codes " times"

-- The same, as a refusal of the run.
abbrev pub text_refusal : Counted → TextFault → Option Refusal
text_refusal counted fault = option_map refusals.Text (refusal_of_text counted fault)

-- A script has two limits: on the items of its diagram, and on its steps.
abbrev pub counted_in_script : ℕ → Counted
counted_in_script limit = if limit == MOST_STEPS then Steps else Items

abbrev pub counted_in : TextFault → Counted
counted_in (faults.Head at) = Items
counted_in (faults.Number at) = Items
counted_in (faults.Text at) = Items
counted_in (faults.TooMany limit) = counted_in_script limit
counted_in (faults.Label label count) = Items
counted_in faults.Memory = Items

abbrev pub script_text_refusal : TextFault → Option Refusal
script_text_refusal fault = text_refusal (counted_in fault) fault

-- The stop of such a fault: a refusal, or want of memory.
abbrev pub stop_of : Option Refusal → Stop
stop_of (Some refusal) = Refused refusal
stop_of None = Memory

abbrev pub stop_of_text : Counted → TextFault → Stop
stop_of_text counted fault = stop_of (text_refusal counted fault)
