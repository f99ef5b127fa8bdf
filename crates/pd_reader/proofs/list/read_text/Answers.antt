use Rattle.std.specs.List.{AllByRecursion}
use Rattle.std.proofs.lemmas.Result.{err_from_is_err_and}
use Rattle.text_shapes.specs.Shapes.{listed}
use Rattle.text_shapes.proofs.Chain.{found_accepts, found_refuses}
use Rattle.pd_reader.proofs.StopLemmas.{stop_refuses}
use Rattle.pd_reader.proofs.list.read_text.Goals as goal

pub returns-in_err-items-clause-err : goal.returns-in_err-items-clause-err
returns-in_err-items-clause-err g c =
    let p = err_from_is_err_and c.from_residual.result c.from_residual.ensures.1 in
    rw (p.1, p.2) (stop_refuses (AllByRecursion g.I.TextItem.fits) (listed g.I.TextItem.tokens c.args.head.now) c.args.bytes.now c.in_err-items.field-0.0 c.in_err-items.ensures.err)

pub returns-in_err-finish-clause-err : goal.returns-in_err-finish-clause-err
returns-in_err-finish-clause-err g c =
    let p = err_from_is_err_and c.from_residual-in_err-finish.result c.from_residual-in_err-finish.ensures.1 in
    let rest = c.in_err-finish.ensures.err in
    rw (p.1, p.2) (found_refuses (AllByRecursion g.I.TextItem.fits) (listed g.I.TextItem.tokens c.args.head.now) c.args.bytes.now c.in_ok-items.items.items c.in_ok-items.end c.in_err-finish.field-0.0 c.in_ok-items.ensures.ok rest.0 rest.1)

pub returns-clause-ok : goal.returns-clause-ok
returns-clause-ok g c = found_accepts (AllByRecursion g.I.TextItem.fits) (listed g.I.TextItem.tokens c.args.head.now) c.args.bytes.now c.in_ok-items.items.items c.in_ok-items.end c.in_ok-items.ensures.ok c.in_ok-finish.ensures.ok
