use Rattle.std.proofs.Common.{◌≡◌, ◌∙◌, ◌+◌, ◌≤◌, List, None, sym, ap, subst, arith}
use Rattle.pd_reader.specs.declared.item.Item.{Item}
use Rattle.pd_reader.specs.Diagrams.{IsDiagram}
use Rattle.planar_check.specs.Components.{least_labels}
use Rattle.diagram_moves.specs.Anchors.{anchor_inside, first_anchor, inner_edges}
use Rattle.diagram_moves.specs.Rewriting.{fresh}
use Rattle.move_script.proofs.ColouredKept.{value_follows}
use Rattle.move_script.proofs.coloured.apply_coloured.Goals as goal

pub returns-in-None-clause-coloured : goal.returns-in-None-clause-coloured
returns-in-None-clause-coloured c =
    let items = c.args.diagram.now in
    let colours = c.args.colours.now in
    let step = c.args.step.now in
    let is : IsDiagram c.args.diagram.now = subst IsDiagram c.diagram.ensures.diagram c.items.ensures.diagram in
    let room : fresh c.args.diagram.now + 3 ≤ 2000000 = omega (arith, c.requires.room) in
    let edges : c.deref.result.now ≡ inner_edges c.args.diagram.now c.args.step.now =
    c.deref.ensures.value ∙ c.in_ok-edges.ensures ∙ ap (λ (all : List Item). inner_edges all c.args.step.now) (c.items.ensures.items ∙ c.diagram.ensures.diagram) in
    let free : anchor_inside c.args.diagram.now c.args.colours.now c.args.step.now ≡ None =
    ap (λ found. first_anchor found (least_labels c.args.diagram.now) c.args.colours.now 1) (sym edges) ∙ sym c.first_anchor.ensures ∙ c.in-None.is in
    value_follows items colours step c.in_ok-moved.moved is room free c.in_ok-moved.ensures.made
