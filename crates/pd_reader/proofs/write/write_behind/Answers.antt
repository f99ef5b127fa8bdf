use Rattle.std.proofs.Common.{◌∙◌, ◌∷◌, [], append_assoc, arith}
use Rattle.std.proofs.lemmas.List.{take_all}
use Rattle.pd_reader.proofs.Written.{written_behind, written_turn, concat-behind}
use Rattle.pd_reader.proofs.write.write_behind.Goals as goal

pub loop-item-preserved : goal.loop-item-preserved
loop-item-preserved c =
    c.in_ok-extend_from_slice.ensures.items
    ∙ rw (c.in_ok-push.ensures.items, c.as_bytes.ensures.value, c.in_ok-to_string.ensures.ok) (written_turn c.args.text.now.items c.loop-item.text.items c.args.items.now c.loop-item.item-index c.loop-item-test.true c.loop-item.invariant)

pub returns : goal.returns
returns c =
    c.in_ok-push-2.ensures.items
    ∙ rw (c.loop-item.invariant, take_all c.loop-item.item-index c.args.items.now (omega arith), concat-behind c.args.items.now) (append_assoc c.args.text.now.items (written_behind c.args.items.now) (93 ∷ []))
