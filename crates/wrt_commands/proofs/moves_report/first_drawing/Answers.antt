use Rattle.std.proofs.Common.{Ok}
use Rattle.std.proofs.lemmas.Result.{err_from_is_err_and}
use Rattle.script_values.specs.declared.drawing.Drawing.TheVariants.{Framed}
use Rattle.wrt_commands.specs.FramingFits.{fit_framings}
use Rattle.wrt_commands.proofs.StageLemmas.{ends}
use Rattle.wrt_commands.proofs.moves_report.first_drawing.Goals as goal

pub returns-in_err-fit_framings-in-Surgery-clause-answer : goal.returns-in_err-fit_framings-in-Surgery-clause-answer
returns-in_err-fit_framings-in-Surgery-clause-answer c =
    let p = err_from_is_err_and c.from_residual-in_err-fit_framings-in-Surgery.result c.from_residual-in_err-fit_framings-in-Surgery.ensures.1 in
    rw (p.1, c.in-Surgery.is) (ends (fit_framings c.args.plane c.in-Surgery.list) (λ framed. Ok (Framed framed)) _ p.0 p.2 (rw c.members-in-Surgery.ensures at c.in_err-fit_framings-in-Surgery.ensures))
