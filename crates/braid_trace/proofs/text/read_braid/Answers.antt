use Rattle.std.proofs.Common.{◌≡◌, ◌∙◌, ℕ, List, Some, None, Result, Ok, Err, IfOk, IfErr, sym, ap, subst}
use Rattle.std.proofs.lemmas.Result.{IfErr-weaker, IfOk-weaker}
use Rattle.text_shapes.specs.Readers.{Accepts}
use Rattle.pd_reader.specs.Answers.{Answers}
use Rattle.pd_reader.proofs.Readings.{text_read, answers_refused, answers_made, answers_stopped, refused_text, refused_place}
use Rattle.braid_trace.specs.declared.fault.BraidFault.{BraidFault}
use Rattle.braid_trace.specs.Braids.{BraidWord, IsTextBraid, braid_tokens, IsBraidText, refusal}
use Rattle.braid_trace.specs.Faults.{cause}
use Rattle.braid_trace.proofs.OneReading.{gave_reason, is_at}
use Rattle.braid_trace.proofs.Texts.{braid_are_tokens}
use Rattle.braid_trace.proofs.text.read_braid.Goals as goal

pub returns-in-Ok-clause-read : goal.returns-in-Ok-clause-read
returns-in-Ok-clause-read c =
    let v : BraidWord = record { strands = c.in-Ok.strands; word = c.in-Ok.entries.items } in
    IfOk-weaker c.new.result _ _ (λ braid h. subst (λ (w : BraidWord). IsBraidText c.args.bytes.now w) (sym h.0) (text_read IsTextBraid braid_tokens refusal cause braid_are_tokens c.args.bytes.now v c.in-Ok.ensures.ok)) c.new.ensures.ok

answered : (bytes : List ℕ) (v : BraidWord) → Accepts IsTextBraid braid_tokens bytes v → (result : Result BraidWord BraidFault) → IfOk result (λ braid. (braid ≡ v) × (refusal v ≡ None)) → IfErr result (λ fault. refusal v ≡ Some fault)
    → (braid : BraidWord) → IsBraidText bytes braid → Answers cause (refusal braid) braid result
answered bytes v read (Ok made) h k braid text =
    subst (λ (w : BraidWord). Answers cause (refusal braid) braid (Ok w)) (sym h.0) (answers_made IsTextBraid braid_tokens refusal cause braid_are_tokens bytes v read h.1 braid text)
answered bytes v read (Err fault) h k braid text = answers_refused IsTextBraid braid_tokens refusal cause braid_are_tokens bytes v read fault (gave_reason v fault k) braid text

pub returns-in-Ok-clause-text : goal.returns-in-Ok-clause-text
returns-in-Ok-clause-text c braid text = answered c.args.bytes.now (record { strands = c.in-Ok.strands; word = c.in-Ok.entries.items }) c.in-Ok.ensures.ok c.new.result c.new.ensures.ok c.new.ensures.err braid text

pub returns-in-Ok-clause-refused : goal.returns-in-Ok-clause-refused
returns-in-Ok-clause-refused c =
    let v : BraidWord = record { strands = c.in-Ok.strands; word = c.in-Ok.entries.items } in
    IfErr-weaker c.new.result _ _ (λ fault e. refused_text IsTextBraid braid_tokens refusal cause braid_are_tokens c.args.bytes.now v c.in-Ok.ensures.ok fault (gave_reason v fault e)) c.new.ensures.err

pub returns-in-Err-At-clause-text : goal.returns-in-Err-At-clause-text
returns-in-Err-At-clause-text c braid text = answers_stopped IsTextBraid braid_tokens refusal cause braid_are_tokens c.args.bytes.now c.in-Err-At.at (rw c.in-Err-At.field-0-is at c.in-Err-At.ensures.err) c.from.result braid text

pub returns-in-Err-At-clause-refused : goal.returns-in-Err-At-clause-refused
returns-in-Err-At-clause-refused c =
    refused_place IsTextBraid braid_tokens refusal cause braid_are_tokens c.args.bytes.now c.in-Err-At.at (rw c.in-Err-At.field-0-is at c.in-Err-At.ensures.err) c.from.result c.place_at.result (ap cause c.from.ensures ∙ is_at c.place_at.result) (c.place_at.ensures.byte ∙ c.in-Err-At.at-is)
