use Rattle.std.proofs.Common.{◌≡◌, ◌+◌, ◌≤◌, inr, ap, subst, sym, ◌∙◌}
use Rattle.inertia_laws.specs.Indices.{IsCongruent, HaveSameIndices}
use Rattle.pd_reader.specs.Diagrams.{IsDiagram}
use Rattle.planar_check.specs.Components.{least_labels, number_of}
use Rattle.slide_laws.specs.Matrices.{components, linking_matrix, slide_matrix}
use Rattle.slide_laws.specs.Slides.{top_of, slid}
use Rattle.slide_band.proofs.Late.{ok_more}
use Rattle.slide_band.proofs.Steps.{slid_early}
use Rattle.slide_band.proofs.Whole.{known, congruent, same_indices}
use Rattle.slide_band.proofs.sliding.slide.Goals as goal

pub early_refusal-requires-clause-diagram : goal.early_refusal-requires-clause-diagram
early_refusal-requires-clause-diagram c = subst IsDiagram (c.diagram.ensures.diagram ∙ c.planar-planar.ensures.planar) c.items.ensures.diagram

pub returns-in-Some-clause-refused : goal.returns-in-Some-clause-refused
returns-in-Some-clause-refused c = inr (slid_early c.args.framed.now c.args.edge c.args.along c.in-Some.fault (sym c.in-Some.ensures))

pub slid_edges-requires-clause-moved : goal.slid_edges-requires-clause-moved
slid_edges-requires-clause-moved c = c.component_of.ensures ∙ ap (λ xs. number_of xs c.args.edge) c.planar-planar.ensures.planar

pub slid_edges-requires-clause-over : goal.slid_edges-requires-clause-over
slid_edges-requires-clause-over c = c.component_of-2.ensures ∙ ap (λ xs. number_of xs c.args.along) c.planar-planar.ensures.planar

pub returns-clause-congruence : goal.returns-clause-congruence
returns-clause-congruence c =
    let framed = c.args.framed.now in
    let e = c.args.edge in
    let f = c.args.along in
    let diagram = subst IsDiagram (c.diagram.ensures.diagram ∙ c.planar-planar.ensures.planar) c.items.ensures.diagram in
    ok_more c.slid_edges.result (slid framed e f) (λ done. IsCongruent (components framed) (linking_matrix framed) (slide_matrix framed e f done) (linking_matrix done.framed)) c.slid_edges.ensures.made
    (λ done ok. congruent framed e f diagram c.planar-planar.ensures.framed c.requires done ok)

pub returns-clause-inertia : goal.returns-clause-inertia
returns-clause-inertia c =
    let framed = c.args.framed.now in
    let e = c.args.edge in
    let f = c.args.along in
    let diagram = subst IsDiagram (c.diagram.ensures.diagram ∙ c.planar-planar.ensures.planar) c.items.ensures.diagram in
    ok_more c.slid_edges.result (slid framed e f) (λ done. HaveSameIndices (components framed) (linking_matrix framed) (linking_matrix done.framed)) c.slid_edges.ensures.made
    (λ done ok. same_indices framed e f diagram c.planar-planar.ensures.framed c.requires done ok)

pub returns-clause-components : goal.returns-clause-components
returns-clause-components c =
    let framed = c.args.framed.now in
    let e = c.args.edge in
    let f = c.args.along in
    let diagram = subst IsDiagram (c.diagram.ensures.diagram ∙ c.planar-planar.ensures.planar) c.items.ensures.diagram in
    ok_more c.slid_edges.result (slid framed e f) (λ done. least_labels done.framed.items ≡ least_labels framed.items) c.slid_edges.ensures.made
    (λ done ok. (known framed e f diagram c.planar-planar.ensures.framed c.requires done ok).leasts)

pub returns-clause-top : goal.returns-clause-top
returns-clause-top c =
    let framed = c.args.framed.now in
    let e = c.args.edge in
    let f = c.args.along in
    let diagram = subst IsDiagram (c.diagram.ensures.diagram ∙ c.planar-planar.ensures.planar) c.items.ensures.diagram in
    ok_more c.slid_edges.result (slid framed e f) (λ done. top_of done.framed.items ≤ top_of framed.items + 512) c.slid_edges.ensures.made
    (λ done ok. (known framed e f diagram c.planar-planar.ensures.framed c.requires done ok).top)
