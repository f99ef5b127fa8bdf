use Rattle.std.proofs.Common.{◌≡◌, ◌+◌, ◌++◌, ◌∷◌, [], length, ap, ap₂, sym, subst, ◌∙◌, arith, All}
use Rattle.std.proofs.lemmas.Result.{on_ok_weaker}
use Rattle.state_sums.specs.Networks.{Term}
use Rattle.cables.specs.CableNodes.{box_node}
use Rattle.cables.specs.Nets.{projector_of}
use Rattle.skein_network.specs.Edges.{colour_at}
use Rattle.skein_network.specs.Boxes.{strands_box}
use Rattle.skein_network.proofs.LentTerms.{held_at, names_long}
use Rattle.skein_network.proofs.boxes.push_strands_box.Goals as goal

pub terms_of-terms-requires-clause-held : goal.terms_of-terms-requires-clause-held
terms_of-terms-requires-clause-held c =
    let colouring = c.args.colouring.now in
    let colour = c.colour_of-colour.ensures ∙ ap (λ es. colour_at es c.args.label) c.deref.ensures.value in
    held_at colouring.projectors.items c.deref-2.result.now (colour_at colouring.edges.items c.args.label) c.colour_of-colour.result c.deref-2.ensures.value colour (c.requires.ready.held c.args.label c.requires.some)

pub push_box-requires-clause-few : goal.push_box-requires-clause-few
push_box-requires-clause-few c =
    let long = names_long c.deref-3.result.now c.colour_of-colour.result c.args.label (c.deref-3.ensures.value ∙ c.in_ok-first.ensures) in
    let colour = c.colour_of-colour.ensures ∙ ap (λ es. colour_at es c.args.label) c.deref.ensures.value in
    let few = c.requires.ready.few c.args.label in
    omega (arith, long, colour, few)

pub push_box-requires-clause-whole : goal.push_box-requires-clause-whole
push_box-requires-clause-whole c =
    let long = names_long c.deref-3.result.now c.colour_of-colour.result c.args.label (c.deref-3.ensures.value ∙ c.in_ok-first.ensures) in
    subst (λ n. All (λ (term : Term). length term.partner ≡ n + n) c.terms_of-terms.result.now) (sym long) c.terms_of-terms.ensures.whole

pub returns : goal.returns
returns c =
    let old = c.args.nodes.now.items in
    let colour = c.colour_of-colour.ensures ∙ ap (λ es. colour_at es c.args.label) c.deref.ensures.value in
    on_ok_weaker c.push_box.result
    (λ pushed.
    pushed
    ∙ ap (λ terms. old ++ box_node c.args.group terms c.deref-3.result.now c.deref-4.result.now ∷ []) c.terms_of-terms.ensures.value
    ∙ ap₂ (λ xs ys. old ++ box_node c.args.group (projector_of c.args.colouring.now.params.now c.colour_of-colour.result) xs ys ∷ []) (c.deref-3.ensures.value ∙ c.in_ok-first.ensures) (c.deref-4.ensures.value ∙ c.in_ok-second.ensures)
    ∙ ap (λ n. old ++ strands_box c.args.colouring.now.params.now n c.args.group c.args.own_names c.args.label ∷ []) colour)
    c.push_box.ensures
