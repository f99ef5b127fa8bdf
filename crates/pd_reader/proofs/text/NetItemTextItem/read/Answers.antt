use Rattle.std.proofs.Common.{max, codes, [], ◌∷◌}
use Rattle.text_shapes.specs.Tokens.{number_tokens}
use Rattle.pd_reader.specs.Texts.{IsOfKind, IsTextNetItem, net_item_tokens}
use Rattle.text_shapes.proofs.Choice.{choice_found, choice_missed, both_missed, all_missed}
use Rattle.pd_reader.proofs.ItemCalls.{x_word, y_word, net_head, net_numbers, net_slots_of, net_item_of, net_item_calls, net_makes_x, net_makes_y, net_makes_loop, net_heads, all_net_heads}
use Rattle.pd_reader.proofs.text.NetItemTextItem.read.Goals as goal

pub read_call-requires-clause-word : goal.read_call-requires-clause-word
read_call-requires-clause-word c = x_word

pub returns-in-Ok-clause-ok : goal.returns-in-Ok-clause-ok
returns-in-Ok-clause-ok c = choice_found number_tokens IsOfKind IsTextNetItem net_item_tokens net_slots_of net_item_of net_head net_numbers net_item_calls c.args.bytes.now c.args.at (codes "X") net_makes_x c.read_call.new.slots c.in-Ok.next c.in-Ok.ensures.ok c.in-Ok.ensures.others

pub read_call-requires-2-clause-word : goal.read_call-requires-2-clause-word
read_call-requires-2-clause-word c = y_word

pub returns-in-Ok-read_call-clause-ok : goal.returns-in-Ok-read_call-clause-ok
returns-in-Ok-read_call-clause-ok c = choice_found number_tokens IsOfKind IsTextNetItem net_item_tokens net_slots_of net_item_of net_head net_numbers net_item_calls c.args.bytes.now c.args.at (codes "Y") net_makes_y c.read_call-2.new.slots c.in-Ok-read_call.next c.in-Ok-read_call.ensures.ok c.in-Ok-read_call.ensures.others

pub returns-in-Ok-read_loop-clause-ok : goal.returns-in-Ok-read_loop-clause-ok
returns-in-Ok-read_loop-clause-ok c = choice_found number_tokens IsOfKind IsTextNetItem net_item_tokens net_slots_of net_item_of net_head net_numbers net_item_calls c.args.bytes.now c.args.at (codes "Loop") net_makes_loop (c.in-Ok-read_loop.label ∷ []) c.in-Ok-read_loop.next c.in-Ok-read_loop.ensures.ok c.in-Ok-read_loop.ensures.others

pub returns-clause-err : goal.returns-clause-err
returns-clause-err c =
    let no_x = choice_missed number_tokens IsOfKind IsTextNetItem net_item_tokens net_slots_of net_item_of net_head net_numbers net_item_calls c.args.bytes.now c.args.at (codes "X") net_makes_x c.in-Err.p c.in-Err.ensures.err in
    let no_y = choice_missed number_tokens IsOfKind IsTextNetItem net_item_tokens net_slots_of net_item_of net_head net_numbers net_item_calls c.args.bytes.now c.args.at (codes "Y") net_makes_y c.in-Err-read_call.q c.in-Err-read_call.ensures.err in
    let no_loop = choice_missed number_tokens IsOfKind IsTextNetItem net_item_tokens net_slots_of net_item_of net_head net_numbers net_item_calls c.args.bytes.now c.args.at (codes "Loop") net_makes_loop c.in-Err-read_loop.r c.in-Err-read_loop.ensures.err in
    let neither = both_missed number_tokens IsOfKind IsTextNetItem net_item_tokens net_slots_of net_item_of net_head net_numbers net_item_calls c.args.bytes.now c.args.at (codes "X" ∷ []) (codes "Y") c.in-Err.p c.in-Err-read_call.q no_x no_y in
    rw (c.max-2.ensures, c.max.ensures) (all_missed number_tokens IsOfKind IsTextNetItem net_item_tokens net_slots_of net_item_of net_head net_numbers net_item_calls c.args.bytes.now c.args.at net_heads (max (max c.in-Err.p c.in-Err-read_call.q) c.in-Err-read_loop.r) all_net_heads
    (both_missed number_tokens IsOfKind IsTextNetItem net_item_tokens net_slots_of net_item_of net_head net_numbers net_item_calls c.args.bytes.now c.args.at (codes "Y" ∷ codes "X" ∷ []) (codes "Loop") (max c.in-Err.p c.in-Err-read_call.q) c.in-Err-read_loop.r neither no_loop))
