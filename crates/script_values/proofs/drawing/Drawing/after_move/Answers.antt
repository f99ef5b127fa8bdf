use Rattle.std.proofs.Common.{◌≡◌, ◌⊎◌, ◌∙◌, Err, sym, ap, subst}
use Rattle.std.proofs.lemmas.Result.{err_from_is_err_and}
use Rattle.script_values.specs.declared.drawing.Drawing.{Drawing}
use Rattle.script_values.specs.declared.step_fault.StepFault.TheVariants.{Memory}
use Rattle.script_values.specs.Drawings.{coloured_of, made}
use Rattle.script_values.specs.Refusals.{fault_of_move}
use Rattle.script_values.proofs.Moves.{coloured_move, coloured_refused}
use Rattle.script_values.proofs.drawing.Drawing.after_move.Goals as goal

pub returns-in_err-apply-in-Coloured-clause-refused : goal.returns-in_err-apply-in-Coloured-clause-refused
returns-in_err-apply-in-Coloured-clause-refused c =
    let told = err_from_is_err_and c.from_residual-in_err-apply-in-Coloured.result c.from_residual-in_err-apply-in-Coloured.ensures.1 in
    let fault = c.in_err-apply-in-Coloured.field-0.0 in
    let D : Drawing → Type 0 = λ drawing. (fault_of_move fault ≡ Memory) ⊎ (made drawing c.args.step.now ≡ Err (fault_of_move fault)) in
    rw (told.1, told.2) (subst D (sym c.in-Coloured.is) (coloured_refused c.in-Coloured.coloured c.args.step.now fault c.requires.step c.in_err-apply-in-Coloured.ensures.refused))

pub returns-in_ok-apply-in-Coloured-clause-made : goal.returns-in_ok-apply-in-Coloured-clause-made
returns-in_ok-apply-in-Coloured-clause-made c =
    ap (λ (drawing : Drawing). made drawing c.args.step.now) c.in-Coloured.is
    ∙ coloured_move c.in-Coloured.coloured c.args.step.now c.requires.step
    ∙ ap coloured_of c.in_ok-apply-in-Coloured.ensures.made
