use Rattle.std.proofs.Common.{rules, ◌++◌, sym, ap, arith, string_bytes}
use Rattle.wrt_commands.specs.MovesReports.{lines}
use Rattle.wrt_commands.proofs.ScriptLemmas.{next_line, no_lines_left}
use Rattle.wrt_commands.proofs.moves_report.lines.Goals as goal

pub loop-residue-init : goal.loop-residue-init
loop-residue-init c = ap (λ done. done ++ lines c.args.residues.now) (sym c.new-report.ensures.bytes)

pub loop-residue-preserved : goal.loop-residue-preserved
loop-residue-preserved c =
    next_line c.args.residues.now c.loop-residue.residue-index (string_bytes c.loop-residue.report) (string_bytes c.push_str.new.self) c.deref.result.now c.loop-residue-test.true c.loop-residue.invariant
    c.in_ok-push_str.ensures.bytes (search rules)

pub returns : goal.returns
returns c = let past = c.loop-residue-test.false in no_lines_left c.args.residues.now c.loop-residue.residue-index (string_bytes c.loop-residue.report) c.loop-residue.invariant (omega (arith, past))
