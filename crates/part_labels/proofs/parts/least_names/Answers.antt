use Rattle.std.proofs.Common.{length, ap, sym, ◌∙◌, rules}
use Rattle.std.proofs.lemmas.List.FromFn.{length-range_with_len}
use Rattle.part_labels.proofs.Labelled.{numbered_at, among_length, labelled}
use Rattle.part_labels.proofs.parts.least_names.Goals as goal

pub label_parts-requires-clause-apart : goal.label_parts-requires-clause-apart
label_parts-requires-clause-apart c = numbered_at c.args.names c.deref_mut.result.now (c.deref_mut.ensures.value ∙ c.in_ok-parents.ensures)

pub label_parts-requires-clause-among : goal.label_parts-requires-clause-among
label_parts-requires-clause-among c =
    among_length c.args.names (length c.deref_mut.result.now) c.args.edges.now (sym (ap length (c.deref_mut.ensures.value ∙ c.in_ok-parents.ensures) ∙ length-range_with_len 0 c.args.names)) c.requires.among

pub returns : goal.returns
returns c = record {
  least = labelled c.args.names c.in_ok-parents.parents.len c.args.edges.now c.label_parts.new.parents c.in_ok-parents.parents.items c.requires.among c.in_ok-parents.ensures (search rules) (c.label_parts.auto.parents ∙ ap length c.deref_mut.ensures.value) c.label_parts.ensures.labels;
}
