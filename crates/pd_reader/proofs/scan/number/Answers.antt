use Rattle.std.proofs.Common.{◌-◌, get_or, arith, sym, ◌∙◌}
use Rattle.text_shapes.proofs.Scans.{Digits-first, Digits-more, digit_bounds}
use Rattle.pd_reader.proofs.scan.number.Goals as goal

pub loop-value-init : goal.loop-value-init
loop-value-init c =
    let b = get_or c.args.bytes.now c.args.at 0 in
    let d = digit_bounds b (sym c.is_decimal.ensures ∙ c.if-not-is_decimal.false) in
    Digits-first c.args.bytes.now c.args.at (b - 48) (omega arith) (omega arith) (omega arith) (omega arith)

pub loop-value-preserved : goal.loop-value-preserved
loop-value-preserved c =
    let b = get_or c.args.bytes.now c.loop-value.place 0 in
    let d = digit_bounds b (sym c.is_decimal-then-place-bytes.ensures ∙ c.if-is_decimal.true) in
    Digits-more c.args.bytes.now c.args.at c.loop-value.value c.loop-value.place (b - 48) c.loop-value.invariant c.loop-value-test.true c.if-place-bytes.true (omega arith) (omega arith)
