use Rattle.std.proofs.Common.{◌≡◌, ◌⊎◌, ◌∙◌, ℕ, List, Some, None, Result, Ok, Err, IfOk, IfErr, refl, sym, ap, subst}
use Rattle.std.specs.List.{AllByRecursion}
use Rattle.std.proofs.lemmas.Result.{IfErr-weaker, IfOk-weaker}
use Rattle.text_shapes.specs.Tokens.{is_space}
use Rattle.text_shapes.specs.Readers.{Accepts}
use Rattle.pd_reader.specs.Answers.{Answers}
use Rattle.pd_reader.proofs.Readings.{text_read, answers_refused, answers_made, answers_stopped, refused_text, refused_place}
use Rattle.tetra_reader.specs.declared.item.TetraItem.{TetraItem}
use Rattle.tetra_reader.specs.declared.fault.TetraText.{TetraText}
use Rattle.tetra_reader.specs.declared.fault.TetraText.TheVariants.{Memory}
use Rattle.tetra_reader.specs.Tetras.{IsTextTetraItem, tetra_tokens, IsTetraText, refusal}
use Rattle.tetra_reader.specs.Faults.{cause}
use Rattle.tetra_reader.proofs.OneReading.{gave_reason, is_at}
use Rattle.tetra_reader.proofs.ItemCalls.{tetra_are_tokens}
use Rattle.tetra_reader.proofs.text.read_tetra.Goals as goal

abbrev Fit : List TetraItem → Type 0
Fit = AllByRecursion IsTextTetraItem

pub read_text-requires : goal.read_text-requires
unfolding is_space
read_text-requires c = refl

pub returns-in-Ok-clause-read : goal.returns-in-Ok-clause-read
returns-in-Ok-clause-read c =
    IfOk-weaker c.new.result _ _ (λ tetra h. subst (λ (w : List TetraItem). IsTetraText c.args.bytes.now w) (sym h.0) (text_read Fit tetra_tokens refusal cause tetra_are_tokens c.args.bytes.now c.in-Ok.items.items c.in-Ok.ensures.ok)) c.new.ensures.made

answered : (bytes : List ℕ) (v : List TetraItem) → Accepts Fit tetra_tokens bytes v → (result : Result (List TetraItem) TetraText) → IfOk result (λ tetra. (tetra ≡ v) × (refusal v ≡ None)) → IfErr result (λ fault. (fault ≡ Memory) ⊎ (refusal v ≡ Some fault))
    → (items : List TetraItem) → IsTetraText bytes items → Answers cause (refusal items) items result
answered bytes v read (Ok made) h k items text =
    subst (λ (w : List TetraItem). Answers cause (refusal items) items (Ok w)) (sym h.0) (answers_made Fit tetra_tokens refusal cause tetra_are_tokens bytes v read h.1 items text)
answered bytes v read (Err fault) h k items text = answers_refused Fit tetra_tokens refusal cause tetra_are_tokens bytes v read fault (gave_reason v fault k) items text

pub returns-in-Ok-clause-text : goal.returns-in-Ok-clause-text
returns-in-Ok-clause-text c items text = answered c.args.bytes.now c.in-Ok.items.items c.in-Ok.ensures.ok c.new.result c.new.ensures.made c.new.ensures.refused items text

pub returns-in-Ok-clause-refused : goal.returns-in-Ok-clause-refused
returns-in-Ok-clause-refused c =
    IfErr-weaker c.new.result _ _ (λ fault e. refused_text Fit tetra_tokens refusal cause tetra_are_tokens c.args.bytes.now c.in-Ok.items.items c.in-Ok.ensures.ok fault (gave_reason c.in-Ok.items.items fault e)) c.new.ensures.refused

pub returns-in-Err-At-clause-text : goal.returns-in-Err-At-clause-text
returns-in-Err-At-clause-text c items text = answers_stopped Fit tetra_tokens refusal cause tetra_are_tokens c.args.bytes.now c.in-Err-At.at (rw c.in-Err-At.field-0-is at c.in-Err-At.ensures.err) c.from.result items text

pub returns-in-Err-At-clause-refused : goal.returns-in-Err-At-clause-refused
returns-in-Err-At-clause-refused c =
    refused_place Fit tetra_tokens refusal cause tetra_are_tokens c.args.bytes.now c.in-Err-At.at (rw c.in-Err-At.field-0-is at c.in-Err-At.ensures.err) c.from.result c.place_at.result (ap cause c.from.ensures ∙ is_at c.place_at.result) (c.place_at.ensures.byte ∙ c.in-Err-At.at-is)
