-- A refusal ends with one of the four statuses of refusals.
use Rattle.std.proofs.Common.{◌≡◌, refl, ap, Bool, true, false}
use Rattle.wrt_values.specs.declared.fault.ValueRefusal.{ValueRefusal}
use Rattle.wrt_values.specs.declared.fault.ValueRefusal.TheVariants as values
use Rattle.script_values.specs.declared.fault.ScriptRefusal.{ScriptRefusal}
use Rattle.script_values.specs.declared.fault.ScriptRefusal.TheVariants as scripts
use Rattle.script_values.specs.declared.step_refusal.StepRefusal.{StepRefusal}
use Rattle.script_values.specs.declared.step_refusal.StepRefusal.TheVariants as steps
use Rattle.wrt_commands.specs.declared.refusal.Refusal.{Refusal}
use Rattle.wrt_commands.specs.declared.refusal.Refusal.TheVariants.{Words, Parameters, TooLong, Text, Plane, Arguments, Value, Script, Braid, Tetra}
use Rattle.wrt_commands.specs.declared.braid_refusal.BraidRefusal.TheVariants as braids
use Rattle.wrt_commands.specs.declared.tetra_refusal.TetraRefusal.TheVariants as tetras
use Rattle.wrt_commands.specs.declared.status.Status.{Status}
use Rattle.wrt_commands.specs.declared.status.Status.TheVariants as statuses
use Rattle.wrt_commands.specs.declared.text_refusal.TextRefusal.TheVariants as texts
use Rattle.wrt_commands.specs.declared.stop.Stop.{Stop}
use Rattle.wrt_commands.specs.declared.stop.Stop.TheVariants.{Refused, ReadFault, Memory}
use Rattle.wrt_commands.specs.Refusals.{status_of}
use Rattle.wrt_commands.specs.ScriptRefusals.{status_of_step, status_of_script}
use Rattle.wrt_commands.specs.ValueRefusals.{status_of_value}
use Rattle.wrt_commands.specs.Stops.{status_of_stop}

-- The status is one of refusals.
abbrev pub is_refused : Status → Bool
is_refused statuses.Done = false
is_refused statuses.Input = true
is_refused statuses.Words = true
is_refused statuses.ReadFault = false
is_refused statuses.WriteFault = false
is_refused statuses.Limit = true
is_refused statuses.NoInverse = true
is_refused statuses.Memory = false

value_status : (refusal : ValueRefusal) → is_refused (status_of_value refusal) ≡ true
value_status (values.TooMany components) = refl
value_status (values.Inertia step) = refl
value_status (values.NoInverse index common) = refl
value_status (values.Wide step ends) = refl
value_status (values.Table step) = refl
value_status (values.NoOmegaInverse sign common) = refl

step_status : (refusal : StepRefusal) → is_refused (status_of_step refusal) ≡ true
step_status (steps.NoEdge edge) = refl
step_status (steps.NoCrossing crossing) = refl
step_status steps.SameEdge = refl
step_status (steps.LoopEdge edge) = refl
step_status steps.NotSameFace = refl
step_status steps.NotBigon = refl
step_status steps.NotTriangle = refl
step_status steps.NotCurl = refl
step_status (steps.TooMany limit) = refl
step_status (steps.NotPlanar faces wanted) = refl
step_status (steps.AnchorInside component) = refl
step_status steps.SlideNeedsFramings = refl
step_status steps.SameComponent = refl
step_status (steps.OddSigns first second) = refl
step_status (steps.FramingSize component) = refl

script_status : (refusal : ScriptRefusal) → is_refused (status_of_script refusal) ≡ true
script_status (scripts.Step step reason) = step_status reason
script_status (scripts.Line line reason) = value_status reason

pub refused_status : (refusal : Refusal) → is_refused (status_of refusal) ≡ true
refused_status (Words refusal) = refl
refused_status (Parameters refusal) = refl
refused_status (TooLong refusal) = refl
refused_status (Text (texts.Head at)) = refl
refused_status (Text (texts.Number at)) = refl
refused_status (Text (texts.Text at)) = refl
refused_status (Text (texts.TooMany limit counted)) = refl
refused_status (Text (texts.Label label count)) = refl
refused_status (Braid braids.Strands) = refl
refused_status (Braid (braids.TooMany limit)) = refl
refused_status (Braid (braids.Entry at strands)) = refl
refused_status (Tetra (tetras.Face tetrahedron)) = refl
refused_status (Tetra (tetras.TooMany labels)) = refl
refused_status (Tetra (tetras.Theta colouring face common)) = refl
refused_status (Plane refusal) = refl
refused_status (Arguments refusal) = refl
refused_status (Value refusal) = value_status refusal
refused_status (Script refusal) = script_status refusal

-- Only a read fault ends with `ReadFault`.
pub read_fault_stop : (stop : Stop) → status_of_stop stop ≡ statuses.ReadFault → stop ≡ ReadFault
read_fault_stop (Refused refusal) e = let is = refused_status refusal in let same = ap is_refused e in absurd (cc)
read_fault_stop ReadFault e = refl
read_fault_stop Memory e = absurd (cc)
