use Rattle.std.proofs.Common.{◌<◌, ◌∙◌, length, arith, []}
use Rattle.text_shapes.proofs.Places.{place-skips, place-end, place-rest}
use Rattle.pd_reader.proofs.scan.finish.Goals as goal

pub returns-then-end-bytes-clause-ok : goal.returns-then-end-bytes-clause-ok
returns-then-end-bytes-clause-ok c = place-skips c.args.bytes.now c.args.at c.skip-end.result [] c.skip-end.ensures ∙ place-end c.args.bytes.now c.skip-end.result c.if-end-bytes.true

pub returns-else-end-bytes-clause-err : goal.returns-else-end-bytes-clause-err
returns-else-end-bytes-clause-err c =
    let lt : c.skip-end.result < length c.args.bytes.now = omega (arith, c.skip-end.ensures.within, c.if-end-bytes.false) in
    (place-skips c.args.bytes.now c.args.at c.skip-end.result [] c.skip-end.ensures ∙ place-rest c.args.bytes.now c.skip-end.result lt (c.skip-end.ensures.stops lt), c.skip-end.ensures.within)
