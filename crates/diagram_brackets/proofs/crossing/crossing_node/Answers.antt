use Rattle.std.proofs.Common.{◌<◌, ap, ◌∙◌, Err, arith}
use Rattle.diagram_brackets.proofs.crossing.crossing_node.Goals as goal

pub unreachable-requires : goal.unreachable-requires
unreachable-requires c =
    let e = (c.new.ensures.long c.in-Err-Long.field-0-0).0 (c.in-Err-Long.is ∙ ap Err c.in-Err-Long.field-0-is) in
    let many : 24 < 4 = e.0 in
    omega (arith, many)

pub unreachable-requires-in-Err-TooMany : goal.unreachable-requires-in-Err-TooMany
unreachable-requires-in-Err-TooMany c =
    let e = (c.new.ensures.too_many c.in-Err-TooMany.field-0-0).0 (c.in-Err-TooMany.is ∙ ap Err c.in-Err-TooMany.field-0-is) in
    let many : 1048576 < 2 = e.1 in
    omega (arith, many)

pub unreachable-requires-in-Err-Ends : goal.unreachable-requires-in-Err-Ends
unreachable-requires-in-Err-Ends c =
    let e = (c.new.ensures.misfit c.in-Err-Ends.field-0-0).0 (c.in-Err-Ends.is ∙ ap Err c.in-Err-Ends.field-0-is) in
    let none = rw (c.joins_ab_cd.ensures, c.joins_ad_bc.ensures) at e.2 in
    absurd (cc)
