use Rattle.std.proofs.Common.{sym, ap, subst, ◌∙◌, Ok}
use Rattle.std.proofs.lemmas.Result.{err_from_is_err_and}
use Rattle.pd_reader.specs.Answers.{Answers}
use Rattle.pd_reader.specs.Faults.{cause}
use Rattle.pd_reader.proofs.OneReading.{is_at}
use Rattle.pd_reader.proofs.TextTokens.{pd_labels}
use Rattle.pd_reader.proofs.Readings.{text_read, answers_refused, answers_made, answers_stopped, refused_text, refused_place}
use Rattle.script_reader.specs.ScriptTexts.{ScriptParts, IsScriptText, IsTextScript, script_refusal, script_tokens}
use Rattle.script_reader.proofs.OneScriptReading.{gave_reason, script_are_tokens}
use Rattle.script_reader.proofs.PartsOfScripts.{parts}
use Rattle.script_reader.proofs.text.read_script.Goals as goal

pub new-requires : goal.new-requires
new-requires c = rw c.deref.ensures.value (pd_labels c.in-Ok.items.items c.in-Ok.ensures.ok.fits_shape.are_items)

pub returns-in_err-new-in-Ok-clause-text : goal.returns-in_err-new-in-Ok-clause-text
returns-in_err-new-in-Ok-clause-text c script text =
    let p = err_from_is_err_and c.from_residual.result c.from_residual.ensures.1 in
    let gave = gave_reason (parts c.in-Ok.items.items c.in-Ok.steps.items) c.in_err-new-in-Ok.field-0.0 (rw c.deref.ensures.value at c.in_err-new-in-Ok.ensures.err) in
    rw (p.1, p.2) (answers_refused IsTextScript script_tokens script_refusal cause script_are_tokens c.args.bytes.now (parts c.in-Ok.items.items c.in-Ok.steps.items) c.in-Ok.ensures.ok _ gave script text)

pub returns-in_err-new-in-Ok-clause-refused : goal.returns-in_err-new-in-Ok-clause-refused
returns-in_err-new-in-Ok-clause-refused c =
    let p = err_from_is_err_and c.from_residual.result c.from_residual.ensures.1 in
    let gave = gave_reason (parts c.in-Ok.items.items c.in-Ok.steps.items) c.in_err-new-in-Ok.field-0.0 (rw c.deref.ensures.value at c.in_err-new-in-Ok.ensures.err) in
    rw (p.1, p.2) (refused_text IsTextScript script_tokens script_refusal cause script_are_tokens c.args.bytes.now (parts c.in-Ok.items.items c.in-Ok.steps.items) c.in-Ok.ensures.ok _ gave)

pub returns-in_ok-new-in-Ok-clause-read : goal.returns-in_ok-new-in-Ok-clause-read
returns-in_ok-new-in-Ok-clause-read c =
    let made = rw c.deref.ensures.value at c.in_ok-new-in-Ok.ensures.ok in
    subst (λ (w : ScriptParts). IsScriptText c.args.bytes.now w) (sym made.0) (text_read IsTextScript script_tokens script_refusal cause script_are_tokens c.args.bytes.now (parts c.in-Ok.items.items c.in-Ok.steps.items) c.in-Ok.ensures.ok)

pub returns-in_ok-new-in-Ok-clause-text : goal.returns-in_ok-new-in-Ok-clause-text
returns-in_ok-new-in-Ok-clause-text c script text =
    let made = rw c.deref.ensures.value at c.in_ok-new-in-Ok.ensures.ok in
    subst (λ (w : ScriptParts). Answers cause (script_refusal script) script (Ok w)) (sym made.0)
    (answers_made IsTextScript script_tokens script_refusal cause script_are_tokens c.args.bytes.now (parts c.in-Ok.items.items c.in-Ok.steps.items) c.in-Ok.ensures.ok made.1 script text)

pub returns-in-Err-At-clause-text : goal.returns-in-Err-At-clause-text
returns-in-Err-At-clause-text c script text = answers_stopped IsTextScript script_tokens script_refusal cause script_are_tokens c.args.bytes.now c.in-Err-At.at (rw c.in-Err-At.field-0-is at c.in-Err-At.ensures.err) c.from.result script text

pub returns-in-Err-At-clause-refused : goal.returns-in-Err-At-clause-refused
returns-in-Err-At-clause-refused c =
    refused_place IsTextScript script_tokens script_refusal cause script_are_tokens c.args.bytes.now c.in-Err-At.at (rw c.in-Err-At.field-0-is at c.in-Err-At.ensures.err) c.from.result c.place_at.result (ap cause c.from.ensures ∙ is_at c.place_at.result) (c.place_at.ensures.byte ∙ c.in-Err-At.at-is)
