use Rattle.std.proofs.Common.{◌≡◌, refl, sym, ap, subst, ◌∙◌, Ok, None}
use Rattle.std.specs.List.{AllByRecursion}
use Rattle.std.proofs.lemmas.Result.{err_from_is_err_and}
use Rattle.text_shapes.specs.Tokens.{is_space}
use Rattle.text_shapes.specs.Shapes.{IsText}
use Rattle.pd_reader.specs.Items.{net_item_labels}
use Rattle.pd_reader.specs.Diagrams.{refusal}
use Rattle.pd_reader.specs.Faults.{cause}
use Rattle.pd_reader.specs.Texts.{IsTextNetItem, net_tokens}
use Rattle.pd_reader.specs.Answers.{Answers}
use Rattle.pd_reader.proofs.OneReading.{gave_items, is_at}
use Rattle.pd_reader.proofs.TextTokens.{net_are_tokens, net_labels}
use Rattle.pd_reader.proofs.Readings.{text_read, answers_refused, answers_made, answers_stopped, refused_text, refused_place}
use Rattle.pd_reader.proofs.text.read_net.Goals as goal

pub read_text-requires : goal.read_text-requires
unfolding is_space
read_text-requires c = refl

pub new-requires : goal.new-requires
new-requires c = rw c.deref.ensures.value (net_labels c.in-Ok.items.items c.in-Ok.ensures.ok.fits_shape)

pub returns-in_err-new-in-Ok-clause-text : goal.returns-in_err-new-in-Ok-clause-text
returns-in_err-new-in-Ok-clause-text c items text =
    let p = err_from_is_err_and c.from_residual.result c.from_residual.ensures.1 in
    let gave = gave_items net_item_labels c.in-Ok.items.items c.in_err-new-in-Ok.field-0.0 (rw c.deref.ensures.value at c.in_err-new-in-Ok.ensures.refused) in
    rw (p.1, p.2) (answers_refused (AllByRecursion IsTextNetItem) net_tokens (refusal net_item_labels) cause net_are_tokens c.args.bytes.now c.in-Ok.items.items c.in-Ok.ensures.ok _ gave items text)

pub returns-in_err-new-in-Ok-clause-refused : goal.returns-in_err-new-in-Ok-clause-refused
returns-in_err-new-in-Ok-clause-refused c =
    let p = err_from_is_err_and c.from_residual.result c.from_residual.ensures.1 in
    let gave = gave_items net_item_labels c.in-Ok.items.items c.in_err-new-in-Ok.field-0.0 (rw c.deref.ensures.value at c.in_err-new-in-Ok.ensures.refused) in
    rw (p.1, p.2) (refused_text (AllByRecursion IsTextNetItem) net_tokens (refusal net_item_labels) cause net_are_tokens c.args.bytes.now c.in-Ok.items.items c.in-Ok.ensures.ok _ gave)

pub returns-in_ok-new-in-Ok-clause-read : goal.returns-in_ok-new-in-Ok-clause-read
returns-in_ok-new-in-Ok-clause-read c =
    subst (λ xs. IsText (AllByRecursion IsTextNetItem) net_tokens c.args.bytes.now xs) (sym (c.in_ok-new-in-Ok.ensures.made ∙ c.deref.ensures.value)) (text_read (AllByRecursion IsTextNetItem) net_tokens (refusal net_item_labels) cause net_are_tokens c.args.bytes.now c.in-Ok.items.items c.in-Ok.ensures.ok)

pub returns-in_ok-new-in-Ok-clause-text : goal.returns-in_ok-new-in-Ok-clause-text
returns-in_ok-new-in-Ok-clause-text c items text =
    let none = subst (λ xs. refusal net_item_labels xs ≡ None) c.deref.ensures.value c.in_ok-new-in-Ok.ensures.ok in
    subst (λ xs. Answers cause (refusal net_item_labels items) items (Ok xs)) (sym (c.in_ok-new-in-Ok.ensures.made ∙ c.deref.ensures.value)) (answers_made (AllByRecursion IsTextNetItem) net_tokens (refusal net_item_labels) cause net_are_tokens c.args.bytes.now c.in-Ok.items.items c.in-Ok.ensures.ok none items text)

pub returns-in-Err-At-clause-text : goal.returns-in-Err-At-clause-text
returns-in-Err-At-clause-text c items text = answers_stopped (AllByRecursion IsTextNetItem) net_tokens (refusal net_item_labels) cause net_are_tokens c.args.bytes.now c.in-Err-At.at (rw c.in-Err-At.field-0-is at c.in-Err-At.ensures.err) c.from.result items text

pub returns-in-Err-At-clause-refused : goal.returns-in-Err-At-clause-refused
returns-in-Err-At-clause-refused c =
    refused_place (AllByRecursion IsTextNetItem) net_tokens (refusal net_item_labels) cause net_are_tokens c.args.bytes.now c.in-Err-At.at (rw c.in-Err-At.field-0-is at c.in-Err-At.ensures.err) c.from.result c.place_at.result (ap cause c.from.ensures ∙ is_at c.place_at.result) (c.place_at.ensures.byte ∙ c.in-Err-At.at-is)
