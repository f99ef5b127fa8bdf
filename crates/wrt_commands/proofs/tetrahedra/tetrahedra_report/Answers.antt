use Rattle.std.proofs.Common.{string_bytes}
use Rattle.std.proofs.lemmas.Result.{err_from_is_err_and}
use Rattle.wrt_commands.specs.Inputs.{IsTetraTextOutcome}
use Rattle.wrt_commands.specs.TetraOutcomes.{tetra_report}
use Rattle.wrt_commands.proofs.InputLemmas.{text_stops, text_answers}
use Rattle.wrt_commands.proofs.tetrahedra.tetrahedra_report.Goals as goal

pub returns-in_err-tetra : goal.returns-in_err-tetra
returns-in_err-tetra c =
    let p = err_from_is_err_and c.from_residual.result c.from_residual.ensures.1 in
    rw p.1 (text_stops IsTetraTextOutcome (tetra_report c.args.params.now) c.args.bytes.now c.requires _ p.0 p.2 c.in_err-tetra.ensures)

pub returns : goal.returns
returns c =
    text_answers IsTetraTextOutcome (tetra_report c.args.params.now) c.args.bytes.now string_bytes c.in_ok-tetra.tetra c.requires c.in_ok-tetra.ensures c.sum_report.result c.sum_report.ensures
