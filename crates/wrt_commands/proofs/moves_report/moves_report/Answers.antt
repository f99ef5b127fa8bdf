use Rattle.std.proofs.Common.{◌≡◌, ◌∙◌, Ok, ap, subst, string_bytes}
use Rattle.std.proofs.lemmas.Result.{err_from_is_err_and}
use Rattle.script_reader.specs.ScriptTexts.{ScriptParts}
use Rattle.wrt_commands.specs.MovesReports.{lines, moves_report}
use Rattle.wrt_commands.specs.Stops.{Is, Stops}
use Rattle.wrt_commands.proofs.ScriptLemmas.{script_fails, script_reports}
use Rattle.wrt_commands.proofs.moves_report.moves_report.Goals as goal

pub returns-in_err-residues : goal.returns-in_err-residues
returns-in_err-residues g c =
    let p = err_from_is_err_and c.from_residual-in_err-residues.result c.from_residual-in_err-residues.ensures.1 in
    let S : ScriptParts → Type 0 = λ script. Stops (Is (moves_report c.args.params.now c.args.values.now script)) p.0 in
    rw p.1 (subst S c.script.view_is (script_fails c.args.params.now c.args.values.now (record { diagram = c.script.inside.diagram; steps = c.script.inside.steps.items }) c.in_ok-plane.plane c.in_ok-first.first
    c.in_ok-plane.ensures c.in_ok-first.ensures.answer c.deref.result.now c.deref.ensures.value _ p.0 p.2 c.in_err-residues.ensures))

pub returns : goal.returns
returns g c =
    let S : ScriptParts → Type 0 = λ script. moves_report c.args.params.now c.args.values.now script ≡ Ok (string_bytes c.in_ok-lines.field-0) in
    subst S c.script.view_is (script_reports c.args.params.now c.args.values.now (record { diagram = c.script.inside.diagram; steps = c.script.inside.steps.items }) c.in_ok-plane.plane c.in_ok-first.first
    c.in_ok-plane.ensures c.in_ok-first.ensures.answer c.deref.result.now c.deref.ensures.value c.in_ok-residues.residues.items (string_bytes c.in_ok-lines.field-0) c.in_ok-residues.ensures
    (c.in_ok-lines.ensures ∙ ap lines c.deref-2.ensures.value))
