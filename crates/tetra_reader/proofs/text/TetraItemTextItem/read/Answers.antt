use Rattle.std.proofs.Common.{max, codes, [], ◌∷◌}
use Rattle.text_shapes.specs.Tokens.{number_tokens}
use Rattle.pd_reader.specs.Texts.{IsOfKind}
use Rattle.tetra_reader.specs.Tetras.{IsTextTetraItem, tetra_item_tokens}
use Rattle.text_shapes.proofs.Choice.{choice_found, choice_missed, both_missed, all_missed}
use Rattle.tetra_reader.proofs.ItemCalls.{f_word, t_word, head, numbers, slots_of, item_of, item_calls, makes_f, makes_t, heads, all_heads}
use Rattle.tetra_reader.proofs.text.TetraItemTextItem.read.Goals as goal

pub read_call-requires-clause-word : goal.read_call-requires-clause-word
read_call-requires-clause-word c = f_word

pub returns-in-Ok-clause-ok : goal.returns-in-Ok-clause-ok
returns-in-Ok-clause-ok c = choice_found number_tokens IsOfKind IsTextTetraItem tetra_item_tokens slots_of item_of head numbers item_calls c.args.bytes.now c.args.at (codes "F") makes_f c.read_call.new.slots c.in-Ok.next c.in-Ok.ensures.ok c.in-Ok.ensures.others

pub read_call-requires-2-clause-word : goal.read_call-requires-2-clause-word
read_call-requires-2-clause-word c = t_word

pub returns-in-Ok-read_call-clause-ok : goal.returns-in-Ok-read_call-clause-ok
returns-in-Ok-read_call-clause-ok c = choice_found number_tokens IsOfKind IsTextTetraItem tetra_item_tokens slots_of item_of head numbers item_calls c.args.bytes.now c.args.at (codes "T") makes_t c.read_call-2.new.slots c.in-Ok-read_call.next c.in-Ok-read_call.ensures.ok c.in-Ok-read_call.ensures.others

pub returns-clause-err : goal.returns-clause-err
returns-clause-err c =
    let no_f = choice_missed number_tokens IsOfKind IsTextTetraItem tetra_item_tokens slots_of item_of head numbers item_calls c.args.bytes.now c.args.at (codes "F") makes_f c.in-Err.p c.in-Err.ensures.err in
    let no_t = choice_missed number_tokens IsOfKind IsTextTetraItem tetra_item_tokens slots_of item_of head numbers item_calls c.args.bytes.now c.args.at (codes "T") makes_t c.in-Err-read_call.q c.in-Err-read_call.ensures.err in
    rw c.max.ensures (all_missed number_tokens IsOfKind IsTextTetraItem tetra_item_tokens slots_of item_of head numbers item_calls c.args.bytes.now c.args.at heads (max c.in-Err.p c.in-Err-read_call.q) all_heads (both_missed number_tokens IsOfKind IsTextTetraItem tetra_item_tokens slots_of item_of head numbers item_calls c.args.bytes.now c.args.at (codes "F" ∷ []) (codes "T") c.in-Err.p c.in-Err-read_call.q no_f no_t))
