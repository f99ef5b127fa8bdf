-- Refused scripts: their statuses. Their lines are those of script_values. (This project's own.)
--
--     status_of_step refusal     a step's: a limit where its result has too many items, else the input
--     status_of_script refusal   a script's: that of its step, or of the value of its diagram
use Rattle.script_values.specs.declared.step_refusal.StepRefusal.{StepRefusal}
use Rattle.script_values.specs.declared.step_refusal.StepRefusal.TheVariants.{TooMany}
use Rattle.script_values.specs.declared.fault.ScriptFault.{ScriptFault}
use Rattle.script_values.specs.declared.fault.ScriptFault.TheVariants as scripts
use Rattle.script_values.specs.declared.fault.ScriptRefusal.{ScriptRefusal}
use Rattle.script_values.specs.declared.fault.ScriptRefusal.TheVariants.{Step, Line}
use Rattle.wrt_commands.specs.declared.refusal.Refusal.TheVariants.{Script}
use Rattle.wrt_commands.specs.declared.status.Status.{Status}
use Rattle.wrt_commands.specs.declared.status.Status.TheVariants as statuses
use Rattle.wrt_commands.specs.declared.stop.Stop.{Stop}
use Rattle.wrt_commands.specs.declared.stop.Stop.TheVariants.{Refused, Memory}
use Rattle.wrt_commands.specs.ValueRefusals.{status_of_value}

abbrev pub status_of_step : StepRefusal → Status
status_of_step (TooMany limit) = statuses.Limit
status_of_step refusal = statuses.Input

abbrev pub status_of_script : ScriptRefusal → Status
status_of_script (Step step reason) = status_of_step reason
status_of_script (Line line reason) = status_of_value reason

-- A script that is refused, or for which there was no memory.
abbrev pub stop_of_script : ScriptFault → Stop
stop_of_script (scripts.Refused refusal) = Refused (Script refusal)
stop_of_script scripts.Memory = Memory
