-- The definitions, computed at worked values.
use Rattle.std.proofs.Common.{◌≡◌, ◌∷◌, [], Some, None, codes, refl}
use Rattle.std.specs.List.{concat}
use Rattle.text_shapes.specs.Reach.{place, reach}
use Rattle.text_shapes.specs.Tokens.{is_space}
use Rattle.pd_reader.specs.declared.fault.DiagramFault.TheVariants.{Label}
use Rattle.pd_reader.specs.declared.item.Item.TheVariants.{X}
use Rattle.planar_check.specs.declared.sign.Sign.TheVariants.{Plus}
use Rattle.script_reader.specs.declared.step.Step.TheVariants.{R2, R2Undo, BlowUp}
use Rattle.script_reader.specs.StepTexts.{step_tokens}
use Rattle.script_reader.specs.ScriptTexts.{ScriptParts, script_refusal, script_tokens}

-- Moves[PD[],BlowUp[+]]
abbrev blown_up : ScriptParts
blown_up = record { diagram = []; steps = BlowUp Plus ∷ [] }

spelled : concat (script_tokens blown_up) ≡ codes "Moves[PD[],BlowUp[+]]"
spelled = refl

unrefused : script_refusal blown_up ≡ None
unrefused = refl

three_times : script_refusal (record { diagram = X (1 ∷ 1 ∷ 1 ∷ 2 ∷ []) ∷ []; steps = [] }) ≡ Some (Label 1 3)
three_times = refl

-- "R2U[" goes on as R2Undo up to byte 3, and as R2 up to byte 2
farthest : place (codes "R2U[") 0 (step_tokens (R2Undo 1 1)) ≡ 3
unfolding reach is_space
farthest = refl

nearer : place (codes "R2U[") 0 (step_tokens (R2 1 1)) ≡ 2
unfolding reach is_space
nearer = refl
