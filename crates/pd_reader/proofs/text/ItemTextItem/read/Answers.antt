use Rattle.std.proofs.Common.{max, codes, [], ◌∷◌}
use Rattle.text_shapes.specs.Tokens.{number_tokens}
use Rattle.pd_reader.specs.Texts.{IsOfKind, IsTextItem, item_tokens}
use Rattle.text_shapes.proofs.Choice.{choice_found, choice_missed, both_missed, all_missed}
use Rattle.pd_reader.proofs.ItemCalls.{x_word, head, numbers, slots_of, item_of, item_calls, makes_x, makes_loop, heads, all_heads}
use Rattle.pd_reader.proofs.text.ItemTextItem.read.Goals as goal

pub read_call-requires-clause-word : goal.read_call-requires-clause-word
read_call-requires-clause-word c = x_word

pub returns-in-Ok-clause-ok : goal.returns-in-Ok-clause-ok
returns-in-Ok-clause-ok c = choice_found number_tokens IsOfKind IsTextItem item_tokens slots_of item_of head numbers item_calls c.args.bytes.now c.args.at (codes "X") makes_x c.read_call.new.slots c.in-Ok.next c.in-Ok.ensures.ok c.in-Ok.ensures.others

pub returns-in-Ok-read_loop-clause-ok : goal.returns-in-Ok-read_loop-clause-ok
returns-in-Ok-read_loop-clause-ok c = choice_found number_tokens IsOfKind IsTextItem item_tokens slots_of item_of head numbers item_calls c.args.bytes.now c.args.at (codes "Loop") makes_loop (c.in-Ok-read_loop.label ∷ []) c.in-Ok-read_loop.next c.in-Ok-read_loop.ensures.ok c.in-Ok-read_loop.ensures.others

pub returns-clause-err : goal.returns-clause-err
returns-clause-err c =
    let no_x = choice_missed number_tokens IsOfKind IsTextItem item_tokens slots_of item_of head numbers item_calls c.args.bytes.now c.args.at (codes "X") makes_x c.in-Err.p c.in-Err.ensures.err in
    let no_loop = choice_missed number_tokens IsOfKind IsTextItem item_tokens slots_of item_of head numbers item_calls c.args.bytes.now c.args.at (codes "Loop") makes_loop c.in-Err-read_loop.q c.in-Err-read_loop.ensures.err in
    rw c.max.ensures (all_missed number_tokens IsOfKind IsTextItem item_tokens slots_of item_of head numbers item_calls c.args.bytes.now c.args.at heads (max c.in-Err.p c.in-Err-read_loop.q) all_heads (both_missed number_tokens IsOfKind IsTextItem item_tokens slots_of item_of head numbers item_calls c.args.bytes.now c.args.at (codes "X" ∷ []) (codes "Loop") c.in-Err.p c.in-Err-read_loop.q no_x no_loop))
