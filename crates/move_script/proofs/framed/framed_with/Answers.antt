use Rattle.std.proofs.Common.{◌∙◌, Err, ap, sym}
use Rattle.move_script.proofs.FramingsKept.{none_found}
use Rattle.move_script.proofs.framed.framed_with.Goals as goal

pub unreachable-requires : goal.unreachable-requires
unreachable-requires c =
    let h = (c.new.ensures.count c.in-Err-Count.field-0-0 c.in-Err-Count.field-0-1).0 (c.in-Err-Count.is ∙ ap Err c.in-Err-Count.field-0-is) in
    h.0 (h.1 ∙ c.requires.count ∙ sym h.2)

pub unreachable-requires-in-Err-Size : goal.unreachable-requires-in-Err-Size
unreachable-requires-in-Err-Size c =
    let h = (c.new.ensures.size c.in-Err-Size.field-0-0).0 (c.in-Err-Size.is ∙ ap Err c.in-Err-Size.field-0-is) in
    none_found c.args.framings.now c.requires.small c.in-Err-Size.field-0-0 h.1
