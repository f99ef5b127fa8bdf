use Rattle.std.proofs.Common.{◌∙◌, ◌+◌, drop, sym, ap, subst, arith}
use Rattle.script_values.specs.Scripts.{Fails, values}
use Rattle.script_values.specs.declared.fault.ScriptFault.{ScriptFault}
use Rattle.script_values.proofs.Played.{before, begins, dropped_at, one_more_value, no_more_values, no_values_left}
use Rattle.script_values.proofs.script.values.Goals as goal

pub loop-line-init : goal.loop-line-init
loop-line-init g c =
    let whole = values c.args.params.now 0 c.args.all.now in
    begins whole ∙ ap (λ done. before done whole) (sym c.new-residues.ensures.items)

pub returns-in-Err : goal.returns-in-Err
returns-in-Err g c =
    let F : ScriptFault → Type 0 = λ f. Fails (values c.args.params.now 0 c.args.all.now) f in
    subst F (sym c.at_line.ensures)
    (no_more_values c.args.params.now c.loop-line.line c.loop-line.residues.items (drop c.loop-line.line c.args.all.now) _ _ (dropped_at c.args.all.now c.loop-line.line c.index-all-line.result c.loop-line-test.true c.index-all-line.is)
    (values c.args.params.now 0 c.args.all.now) c.loop-line.invariant c.in-Err.fault c.in-Err.ensures)

pub loop-line-preserved : goal.loop-line-preserved
loop-line-preserved g c =
    let rest = drop (c.loop-line.line + 1) c.args.all.now in
    let valued = one_more_value c.args.params.now c.loop-line.line c.loop-line.residues.items (drop c.loop-line.line c.args.all.now) rest _ (dropped_at c.args.all.now c.loop-line.line c.index-all-line.result c.loop-line-test.true c.index-all-line.is)
    c.in-Ok.value c.in-Ok.ensures in
    c.loop-line.invariant ∙ valued ∙ ap (λ done. before done (values c.args.params.now (c.loop-line.line + 1) rest)) (sym c.in_ok-push-in-Ok.ensures.items)

pub returns : goal.returns
returns g c =
    let past = c.loop-line-test.false in
    no_values_left (values c.args.params.now 0 c.args.all.now) c.args.params.now c.loop-line.line c.loop-line.line c.loop-line.residues.items c.args.all.now c.loop-line.invariant (omega (arith, past))
