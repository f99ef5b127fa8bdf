use Rattle.std.proofs.Common.{reverse, sym, ap, ap₂, ◌∙◌, arith}
use Rattle.std.proofs.lemmas.Result.{IfOk-weaker}
use Rattle.cables.specs.Strands.{first_names, second_names}
use Rattle.skein_network.specs.Edges.{strands_at}
use Rattle.skein_network.proofs.SeenLabels.{at_second, at_first, at_either}
use Rattle.skein_network.proofs.strand.names_at.Goals as goal

pub returns-then-stands : goal.returns-then-stands
returns-then-stands c =
    IfOk-weaker c.second_names.result _ _
    (λ names e p.
    e ∙ ap₂ (λ n b. second_names n b c.args.label) c.colour_of-colour.ensures c.is_boxed.ensures
    ∙ sym (at_second (strands_at p c.args.edges.now) c.args.seen.now c.args.label (sym c.stands.ensures ∙ c.if-stands.true)))
    c.second_names.ensures

pub returns-then-colour-lt2 : goal.returns-then-colour-lt2
returns-then-colour-lt2 c =
    let few = c.if-colour-lt2.true in
    let colour = c.colour_of-colour.ensures in
    IfOk-weaker c.first_names.result _ _
    (λ names e p. e ∙ ap (λ n. first_names n c.args.label) colour ∙ sym (at_either p c.args.edges.now (reverse c.args.seen.now) c.args.label (omega (arith, few, colour)) c.requires.some))
    c.first_names.ensures

pub returns-else-stands : goal.returns-else-stands
returns-else-stands c =
    IfOk-weaker c.first_names-else-stands.result _ _
    (λ names e p.
    e ∙ ap (λ n. first_names n c.args.label) c.colour_of-colour.ensures
    ∙ sym (at_first (strands_at p c.args.edges.now) c.args.seen.now c.args.label (sym c.stands.ensures ∙ c.if-stands.false)))
    c.first_names-else-stands.ensures
